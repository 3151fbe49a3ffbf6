-- The references that signers owe, as events (01: inspector.rs, `take_events`).
use Rattle.std.specs.Prelude.{ℕ, ◌+◌, ◌*◌, ◌≤◌, ◌<◌, ◌≡◌, refl, Bool, true, false, cond, eqb, get_or}
use Rattle.std.proofs.Common.{sym, arith}
use Rattle.std.proofs.Math.Path.{ap, subst}
use mathlib.Core.List.{List, [], ◌∷◌, ◌++◌, append_assoc}
use Rattle.std.proofs.lemmas.Bool.{false≢true}
use Rattle.std.proofs.Math.ListN.{length, length-append}
use Rattle.laws.specs.Lists.{joined}
use Rattle.laws.specs.Bytes.{be, be-length}
use Rattle.laws.specs.Peers.{member}
use Rattle.spec.specs.Ids.{Id, id_bytes}
use Rattle.spec.specs.Records.{id-length, ids-length}
use Rattle.spec.specs.Inspect.{Event, no_inclusion, event_bytes}
use Rattle.models.specs.Tables.{author_at}
use Rattle.answer_bytes.specs.Bytes.{place_id}
use Rattle.answer_bytes.specs.Sent.{Room, Sent, kept, sent_then}
use Rattle.inspector_references.specs.Referring.{row_author, row_digest}
use Rattle.inspector_events.specs.declared.emitted.Emitted.{Emitted}
use Rattle.inspector_events.specs.Told.{Told, Open, Ready, passing, open_left, open_first, open_all, open_rest, ready_one, ready_first, ready_rest, told-one, told-then}

-- the first m places have keys
abbrev pub InKeys : List ℕ → List ℕ → ℕ → Type 0
InKeys ks ps m = (j : ℕ) → j < m → get_or ps j 0 * 8 + 8 ≤ length ks

-- ---- rows of 11 words: author, digest (four), and six more

-- row k, a point of round r
abbrev pub row_id : List ℕ → ℕ → ℕ → Id
row_id rs r k = record { round = r; author = row_author rs k; digest = row_digest rs k }

-- row k is a proof against a: a is in its set; or else, it is a point of a
unfoldable pub row_passes : List ℕ → List ℕ → ℕ → Bool → ℕ → Bool
row_passes rs ss a proofs k = cond proofs (member (get_or ss k 0) a) (eqb (row_author rs k) a)

-- of the first n rows those, as ids
abbrev pub row_ids : List ℕ → List ℕ → ℕ → ℕ → ℕ → Bool → List Id
row_ids rs ss n r a proofs = passing n (λ j. j) (row_passes rs ss a proofs) (row_id rs r)

-- of the first m places those of the author a
abbrev pub point_ids : List ℕ → List ℕ → ℕ → ℕ → List Id
point_ids ks ps m a = passing m (λ j. get_or ps j 0) (λ q. eqb (author_at ks q) a) (place_id ks)

-- the points of a
abbrev pub blamed_ids : List ℕ → List ℕ → ℕ → List ℕ → List ℕ → ℕ → ℕ → ℕ → List Id
blamed_ids ks ps m rs ss n r a = row_ids rs ss n r a false ++ point_ids ks ps m a

-- the number of ids, and the ids
unfoldable pub id_list : List Id → List ℕ
id_list xs = be 4 (length xs) ++ joined id_bytes xs

-- the event of signer a
unfoldable pub signer_of : List ℕ → List ℕ → ℕ → List ℕ → List ℕ → ℕ → ℕ → ℕ → Event
signer_of ks ps m rs ss n r a = no_inclusion a (blamed_ids ks ps m rs ss n r a) (row_ids rs ss n r a true)

-- of those below k that are in the set
abbrev pub signers_of : List ℕ → List ℕ → ℕ → List ℕ → List ℕ → ℕ → ℕ → ℕ → ℕ → List Event
signers_of ks ps m rs ss n r signers k = passing k (λ j. j) (member signers) (signer_of ks ps m rs ss n r)

-- ---- the steps of the code

-- the test of a row
pub row_proof : (rs ss : List ℕ) (a k : ℕ) (p : Bool) → p ≡ true → member (get_or ss k 0) a ≡ row_passes rs ss a p k
unfolding row_passes
row_proof rs ss a k p e = rw e refl

pub row-own : (rs ss : List ℕ) (a k : ℕ) (p : Bool) → p ≡ false → eqb (row_author rs k) a ≡ row_passes rs ss a p k
unfolding row_passes
row-own rs ss a k p e = rw e refl

-- one id
module _ (w : Bool) (b : List ℕ) (e : Emitted) (i : Id) where
  pub id-room : Ready id_bytes w b e (i ∷ []) → Room w b e.at 37 × (e.at ≤ 1_099_511_627_776)
  id-room h = open_all w b e.at (id_bytes i) 37 (id-length i) (ready_one id_bytes w b e i h).0

-- the id of a row, part by part
module _ (w : Bool) (b : List ℕ) (at r a d : ℕ) (o : Open w b at (id_bytes (record { round = r; author = a; digest = d }))) where
  pub id-round : Room w b at 4 × (at ≤ 1_099_511_627_776)
  unfolding id_bytes
  id-round = open_first w b at (be 4 r) (be 1 a ++ be 32 d) 4 (be-length 4 r) o

  module _ (a₁ : ℕ) (b₁ : List ℕ) (s₁ : Sent w b at (be 4 r) a₁ b₁) where
    left : Open w b₁ a₁ (be 1 a ++ be 32 d)
    unfolding id_bytes
    left = open_rest w b at (be 4 r) (be 1 a ++ be 32 d) a₁ b₁ s₁ o

    pub id-author : Room w b₁ a₁ 1 × (a₁ ≤ 1_099_511_627_776)
    id-author = open_first w b₁ a₁ (be 1 a) (be 32 d) 1 (be-length 1 a) left

    module _ (a₂ : ℕ) (b₂ : List ℕ) (s₂ : Sent w b₁ a₁ (be 1 a) a₂ b₂) where
      pub id_digest : Room w b₂ a₂ 32 × (a₂ ≤ 1_099_511_627_776)
      id_digest = open_all w b₂ a₂ (be 32 d) 32 (be-length 32 d) (open_rest w b₁ a₁ (be 1 a) (be 32 d) a₂ b₂ s₂ left)

      pub id_sent : (a₃ : ℕ) (b₃ : List ℕ) → Sent w b₂ a₂ (be 32 d) a₃ b₃ → Sent w b at (id_bytes (record { round = r; author = a; digest = d })) a₃ b₃
      unfolding id_bytes
      id_sent a₃ b₃ s₃ = sent_then w b at (be 4 r) (be 1 a ++ be 32 d) a₁ a₃ b₁ b₃ s₁ (sent_then w b₁ a₁ (be 1 a) (be 32 d) a₂ a₃ b₂ b₃ s₂ s₃)

-- a list of ids that is first counted, then sent
module _ (w : Bool) (b : List ℕ) (at : ℕ) (xs : List Id) (o : Open w b at (id_list xs)) where
  -- it is short
  size : at + (4 + length (joined id_bytes xs)) ≤ 1_099_511_627_776
  unfolding id_list
  size =
      let a : at + length (be 4 (length xs) ++ joined id_bytes xs) ≤ 1_099_511_627_776 = o.near in
      omega (arith, a, length-append (be 4 (length xs)) (joined id_bytes xs), be-length 4 (length xs))

  ids-few : length xs ≤ length (joined id_bytes xs)
  ids-few = omega (arith, ids-length xs)

  pub count_ready : (e : Emitted) → e.at ≡ 0 → e.count ≡ 0 → Ready id_bytes false b e xs
  count_ready e z c = record {
    bytes = record { room = λ t. absurd (false≢true t); near = let a = size in omega (arith, a, z) };
    few = let a = size in let l = ids-few in omega (arith, a, c, l);
  }

  -- counting leaves the buffer
  module _ (e r : Emitted) (b₁ : List ℕ) (z : e.count ≡ 0) (t : Told id_bytes false b e xs r b₁) where
    still : b₁ ≡ b
    unfolding kept
    still = t.sent.left

    after : Open w b₁ at (id_list xs)
    after = subst (λ x. Open w x at (id_list xs)) (sym still) o

    counted : r.count ≡ length xs
    counted = let n = t.number in omega (arith, n, z)

    -- the number
    pub list_number : Room w b₁ at 4 × (at ≤ 1_099_511_627_776)
    unfolding id_list
    list_number = open_first w b₁ at (be 4 (length xs)) (joined id_bytes xs) 4 (be-length 4 (length xs)) after

    module _ (a₁ : ℕ) (b₂ : List ℕ) (s₁ : Sent w b₁ at (be 4 r.count) a₁ b₂) where
      t₁ : Sent w b₁ at (be 4 (length xs)) a₁ b₂
      t₁ = subst (λ x. Sent w b₁ at (be 4 x) a₁ b₂) counted s₁

      -- the ids
      pub list_ready : (f : Emitted) → f.at ≡ a₁ → f.count ≡ 0 → Ready id_bytes w b₂ f xs
      unfolding id_list
      list_ready f y c = record {
        bytes = subst (λ x. Open w b₂ x (joined id_bytes xs)) (sym y) (open_rest w b₁ at (be 4 (length xs)) (joined id_bytes xs) a₁ b₂ t₁ after);
        few = let a = size in let l = ids-few in omega (arith, a, c, l);
      }

      pub list_sent : (f p : Emitted) (b₃ : List ℕ) → f.at ≡ a₁ → Told id_bytes w b₂ f xs p b₃ → Sent w b at (id_list xs) p.at b₃
      unfolding id_list
      list_sent f p b₃ y d =
          subst (λ x. Sent w x at (id_list xs) p.at b₃) still
          (sent_then w b₁ at (be 4 (length xs)) (joined id_bytes xs) a₁ p.at b₂ b₃ t₁ (subst (λ x. Sent w b₂ x (joined id_bytes xs) p.at b₃) y d.sent))

-- the same of two lists, one after the other
module _ (w : Bool) (b : List ℕ) (at : ℕ) (ys zs : List Id) (o : Open w b at (id_list (ys ++ zs))) (e : Emitted) (y : e.at ≡ 0) (z : e.count ≡ 0) where
  all : Ready id_bytes false b e (ys ++ zs)
  all = count_ready w b at (ys ++ zs) o e y z

  pub both_first : Ready id_bytes false b e ys
  both_first = ready_first id_bytes false b e ys zs all

  module _ (m : Emitted) (b₁ : List ℕ) (t : Told id_bytes false b e ys m b₁) where
    pub both-next : Ready id_bytes false b₁ m zs
    both-next = ready_rest id_bytes false b e ys zs m b₁ t all

    module _ (r : Emitted) (b₂ : List ℕ) (u : Told id_bytes false b₁ m zs r b₂) where
      told : Told id_bytes false b e (ys ++ zs) r b₂
      told = told-then id_bytes false b e ys zs m r b₁ b₂ t u

      pub both-number : Room w b₂ at 4 × (at ≤ 1_099_511_627_776)
      both-number = list_number w b at (ys ++ zs) o e r b₂ z told

      module _ (a₁ : ℕ) (b₃ : List ℕ) (s₁ : Sent w b₂ at (be 4 r.count) a₁ b₃) (f : Emitted) (g : f.at ≡ a₁) (h : f.count ≡ 0) where
        ready : Ready id_bytes w b₃ f (ys ++ zs)
        ready = list_ready w b at (ys ++ zs) o e r b₂ z told a₁ b₃ s₁ f g h

        pub both-then : Ready id_bytes w b₃ f ys
        both-then = ready_first id_bytes w b₃ f ys zs ready

        module _ (p : Emitted) (b₄ : List ℕ) (d : Told id_bytes w b₃ f ys p b₄) where
          pub both_last : Ready id_bytes w b₄ p zs
          both_last = ready_rest id_bytes w b₃ f ys zs p b₄ d ready

          pub both_sent : (q : Emitted) (b₅ : List ℕ) → Told id_bytes w b₄ p zs q b₅ → Sent w b at (id_list (ys ++ zs)) q.at b₅
          both_sent q b₅ k = list_sent w b at (ys ++ zs) o e r b₂ z told a₁ b₃ s₁ f q b₅ g (told-then id_bytes w b₃ f ys zs p q b₄ b₅ d k)

-- the event of a signer, part by part
module _ (w : Bool) (b : List ℕ) (e : Emitted) (a : ℕ) (xs ys : List Id) (h : Ready event_bytes w b e (no_inclusion a xs ys ∷ [])) where
  abbrev rest : List ℕ
  rest = be 1 a ++ (id_list xs ++ id_list ys)

  parts : event_bytes (no_inclusion a xs ys) ≡ be 1 5 ++ rest
  unfolding event_bytes id_list
  parts = ap (λ (l : List ℕ). be 1 5 ++ (be 1 a ++ l)) (sym (append_assoc (be 4 (length xs)) (joined id_bytes xs) (be 4 (length ys) ++ joined id_bytes ys)))

  whole : Open w b e.at (be 1 5 ++ rest)
  whole = subst (Open w b e.at) parts (ready_one event_bytes w b e (no_inclusion a xs ys) h).0

  pub signer_count : e.count < 1_099_511_627_776
  signer_count = (ready_one event_bytes w b e (no_inclusion a xs ys) h).1

  pub signer_kind : Room w b e.at 1 × (e.at ≤ 1_099_511_627_776)
  signer_kind = open_first w b e.at (be 1 5) rest 1 (be-length 1 5) whole

  module _ (a₁ : ℕ) (b₁ : List ℕ) (s₁ : Sent w b e.at (be 1 5) a₁ b₁) where
    o₁ : Open w b₁ a₁ rest
    o₁ = open_rest w b e.at (be 1 5) rest a₁ b₁ s₁ whole

    pub signer_author : Room w b₁ a₁ 1 × (a₁ ≤ 1_099_511_627_776)
    signer_author = open_first w b₁ a₁ (be 1 a) (id_list xs ++ id_list ys) 1 (be-length 1 a) o₁

    module _ (a₂ : ℕ) (b₂ : List ℕ) (s₂ : Sent w b₁ a₁ (be 1 a) a₂ b₂) where
      o₂ : Open w b₂ a₂ (id_list xs ++ id_list ys)
      o₂ = open_rest w b₁ a₁ (be 1 a) (id_list xs ++ id_list ys) a₂ b₂ s₂ o₁

      pub signer_blamed : Open w b₂ a₂ (id_list xs)
      signer_blamed = open_left w b₂ a₂ (id_list xs) (id_list ys) o₂

      module _ (a₃ : ℕ) (b₃ : List ℕ) (s₃ : Sent w b₂ a₂ (id_list xs) a₃ b₃) where
        pub signer_proofs : Open w b₃ a₃ (id_list ys)
        signer_proofs = open_rest w b₂ a₂ (id_list xs) (id_list ys) a₃ b₃ s₃ o₂

        pub signer_told : (r : Emitted) (b₄ : List ℕ) → Sent w b₃ a₃ (id_list ys) r.at b₄ → r.count ≡ e.count + 1 → Told event_bytes w b e (no_inclusion a xs ys ∷ []) r b₄
        signer_told r b₄ s₄ c =
            told-one event_bytes w b e (no_inclusion a xs ys) r b₄
            (subst (λ l. Sent w b e.at l r.at b₄) (sym parts)
            (sent_then w b e.at (be 1 5) rest a₁ r.at b₁ b₄ s₁ (sent_then w b₁ a₁ (be 1 a) (id_list xs ++ id_list ys) a₂ r.at b₂ b₄ s₂ (sent_then w b₂ a₂ (id_list xs) (id_list ys) a₃ r.at b₃ b₄ s₃ s₄)))) c
