-- The calls of recorded kinds, and that they are made with what was read of the fields.
use Rattle.std.specs.Prelude.{ℕ, ◌+◌, ◌*◌, ◌≤◌, ◌≡◌, Bool, true, false, length, take}
use Rattle.std.proofs.Math.Path.{refl}
use Rattle.std.proofs.Common.{sym, ap, ap₂, subst, ◌∙◌, arith, length-take-le}
use mathlib.Core.List.{List}
use Rattle.std.proofs.Math.Option.{Option}
use Rattle.laws.specs.Bytes.{written, written-length}
use Rattle.spec.specs.Ids.{Id}
use Rattle.spec.specs.Calls as calls
use Rattle.models.specs.declared.parts.PointId.{PointId}
use Rattle.models.specs.declared.info.PointInfo.{PointInfo}
use Rattle.models.specs.Parts.{id_of}
use Rattle.models.specs.Info.{info_of}
use Rattle.commit_state.specs.declared.back.StartArgs.{StartArgs}
use Rattle.commit_state.specs.Reads.{start_args_of}
use Rattle.commit_answer.specs.Answer.{Tables, Left, done_with, Did}
use Rattle.commit_start.specs.Start.{start_left, reset_left}
use Rattle.commit_rounds.specs.Gap.{gap_left}
use Rattle.commit_rounds.specs.Round.{round_left}
use Rattle.commit_rounds.specs.Drop.{drop_left}
use Rattle.commit_points.specs.Name.{name_left}
use Rattle.commit_points.specs.Resolve.{resolve_left}
use Rattle.commit_points.specs.Certify.{certify_left}
use Rattle.commit_call.specs.Commit.{commit_left}
use Rattle.commit_outlook.specs.Outlook.{outlook_left}
use Rattle.commit_remove.specs.Remove.{remove_left}
use Rattle.trace.specs.Numbers.{number_at, id_at, point_id_at, id_read}
use Rattle.trace.specs.Head.{links_in, lists_in}
use Rattle.trace.specs.Fields.{call_by, start_args_in, info_in, since_in, start_read}
use Rattle.trace.specs.Links.{links_words, info_read, links_are, links-taken}
use Rattle.trace.specs.Kinds.{Kind}
use Rattle.trace.specs.Kinds as kind

-- the kinds whose calls take a buffer
abbrev pub takes_buffer : Kind → Bool
takes_buffer k = elim k [ kind.Start ↦ false | kind.Round ↦ false | kind.Name ↦ false | kind.Resolve ↦ false | kind.Certify ↦ false | kind.Commit ↦ true | kind.Remove ↦ true | kind.Drop ↦ false | kind.Gap ↦ false | kind.Reset ↦ false | kind.Outlook ↦ true | kind.Broken ↦ false ]

-- what the call of a kind, its fields and the buffer that it is lent leaves of the tables, to the word and the byte; nothing is done for
-- a broken record
unfoldable pub model_by : Kind → List ℕ → List ℕ → Tables → Left
model_by kind.Start f b = start_left (start_args_in f)
model_by kind.Round f b = round_left (number_at f 0 4) (number_at f 4 4)
model_by kind.Name f b = name_left (point_id_at f 0)
model_by kind.Resolve f b = resolve_left (point_id_at f 0) (info_in f) (links_words f (links_in f))
model_by kind.Certify f b = certify_left (point_id_at f 0)
model_by kind.Commit f b = commit_left (id_at f 0) (lists_in f) b
model_by kind.Remove f b = remove_left (since_in f) (number_at f 0 4) b
model_by kind.Drop f b = drop_left (number_at f 0 4)
model_by kind.Gap f b = gap_left
model_by kind.Reset f b = reset_left
model_by kind.Outlook f b = outlook_left (id_at f 0) b
model_by kind.Broken f b = done_with

-- ---- laws

-- a call made with x does what one with y does, where y makes the call k
module _ (d : Tables) (o : Left) where
  made : {A : Type 0} (c : A → calls.Call) (m : A → Tables → Left) (x y : A) (k : calls.Call) → x ≡ y → c y ≡ k → Did (c x) (m x) d o → Did k (m y) d o
  made {A} c m x y k e g h = subst (λ (z : calls.Call). Did z (m y) d o) g (subst (λ (z : A). Did (c z) (m z) d o) e h)

  made_two : {A B : Type 0} (c : A → B → calls.Call) (m : A → B → Tables → Left) (x y : A) (p q : B) (k : calls.Call) → x ≡ y → p ≡ q → c y q ≡ k → Did (c x p) (m x p) d o → Did k (m y q) d o
  made_two {A} {B} c m x y p q k e g j h = made (c y) (m y) p q k g j (made (λ (z : A). c z p) (λ (z : A). m z p) x y (c y p) e refl h)

  -- with another name for the buffer
  pub lent_made : (k : Kind) (f w v : List ℕ) → w ≡ v → Did (call_by k f w) (model_by k f w) d o → Did (call_by k f v) (model_by k f v) d o
  lent_made k f w v e h = subst (λ (b : List ℕ). Did (call_by k f b) (model_by k f b) d o) e h

  -- by what was read of the fields f
  module _ (f w : List ℕ) where
    pub start_made : (a : StartArgs) → a ≡ start_args_in f → Did (calls.start (start_args_of a)) (start_left a) d o → Did (call_by kind.Start f w) (model_by kind.Start f w) d o
    unfolding call_by model_by
    start_made a e h = made (λ (z : StartArgs). calls.start (start_args_of z)) start_left a (start_args_in f) _ e (ap calls.start (start_read f)) h

    pub round_made : (r p : ℕ) → r ≡ number_at f 0 4 → p ≡ number_at f 4 4 → Did (calls.round r p) (round_left r p) d o → Did (call_by kind.Round f w) (model_by kind.Round f w) d o
    unfolding call_by model_by
    round_made r p e g h = made_two calls.round round_left r (number_at f 0 4) p (number_at f 4 4) _ e g refl h

    pub drop_made : (r : ℕ) → r ≡ number_at f 0 4 → Did (calls.drop r) (drop_left r) d o → Did (call_by kind.Drop f w) (model_by kind.Drop f w) d o
    unfolding call_by model_by
    drop_made r e h = made calls.drop drop_left r (number_at f 0 4) _ e refl h

    pub remove_made : (r : ℕ) (s : Option ℕ) → r ≡ number_at f 0 4 → s ≡ since_in f → Did (calls.remove r s w) (remove_left s r w) d o → Did (call_by kind.Remove f w) (model_by kind.Remove f w) d o
    unfolding call_by model_by
    remove_made r s e g h = made_two (λ (x : ℕ) (y : Option ℕ). calls.remove x y w) (λ (x : ℕ) (y : Option ℕ). remove_left y x w) r (number_at f 0 4) s (since_in f) _ e g refl h

    module _ (i : PointId) (e : i ≡ point_id_at f 0) where
      pub name_made : Did (calls.name (id_of i)) (name_left i) d o → Did (call_by kind.Name f w) (model_by kind.Name f w) d o
      unfolding call_by model_by
      name_made h = made (λ (z : PointId). calls.name (id_of z)) name_left i (point_id_at f 0) _ e (ap calls.name (id_read f 0 (point_id_at f 0) refl)) h

      pub certify_made : Did (calls.certify (id_of i)) (certify_left i) d o → Did (call_by kind.Certify f w) (model_by kind.Certify f w) d o
      unfolding call_by model_by
      certify_made h = made (λ (z : PointId). calls.certify (id_of z)) certify_left i (point_id_at f 0) _ e (ap calls.certify (id_read f 0 (point_id_at f 0) refl)) h

      pub commit_made : (l : List ℕ) → l ≡ lists_in f → Did (calls.commit (id_of i) l w) (commit_left (id_of i) l w) d o → Did (call_by kind.Commit f w) (model_by kind.Commit f w) d o
      unfolding call_by model_by
      commit_made l g h = made_two (λ (z : Id) (y : List ℕ). calls.commit z y w) (λ (z : Id) (y : List ℕ). commit_left z y w) (id_of i) (id_at f 0) l (lists_in f) _ (id_read f 0 i e) g refl h

      pub outlook_made : Did (calls.outlook (id_of i) w) (outlook_left (id_of i) w) d o → Did (call_by kind.Outlook f w) (model_by kind.Outlook f w) d o
      unfolding call_by model_by
      outlook_made h = made (λ (z : Id). calls.outlook z w) (λ (z : Id). outlook_left z w) (id_of i) (id_at f 0) _ (id_read f 0 i e) refl h

      pub resolve_made : (n : PointInfo) (r : List ℕ) → n ≡ info_in f → r ≡ links_words f (links_in f) → Did (calls.resolve (id_of i) (info_of n r)) (resolve_left i n r) d o
          → Did (call_by kind.Resolve f w) (model_by kind.Resolve f w) d o
      unfolding call_by model_by
      resolve_made n r g q h =
          made (λ (z : PointId). calls.resolve (id_of z) (info_of (info_in f) (links_words f (links_in f)))) (λ (z : PointId). resolve_left z (info_in f) (links_words f (links_in f))) i (point_id_at f 0) _ e
          (ap₂ calls.resolve (id_read f 0 (point_id_at f 0) refl) (info_read f))
          (made_two (λ (y : PointInfo) (z : List ℕ). calls.resolve (id_of i) (info_of y z)) (resolve_left i) n (info_in f) r (links_words f (links_in f)) _ g q refl h)

-- the words of at most 121 links, in 605 words
module _ (f b r : List ℕ) (i : PointInfo) (e : r ≡ written b 0 (links_words f (links_in f))) (l : length b ≡ 605) (g : i ≡ info_in f) (m : links_in f ≤ 121) where
  pub refs_count : (i.includes + i.witness) * 5 ≡ length (take ((i.includes + i.witness) * 5) r)
  refs_count = sym (length-take-le ((i.includes + i.witness) * 5) r (omega (arith, ap length e ∙ (written-length b 0 (links_words f (links_in f)) ∙ l), links_are f i g, m)))

  pub refs_taken : take ((i.includes + i.witness) * 5) r ≡ links_words f (links_in f)
  refs_taken = links-taken f b r (i.includes + i.witness) (links_are f i g) (omega (arith, l, m)) e
