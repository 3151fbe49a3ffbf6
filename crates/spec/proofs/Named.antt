-- The look-up (02: N3): its laws, and that its answer 'never named' is true of lists of calls.
use Rattle.std.specs.Prelude.{ℕ, ◌+◌, ◌≤◌, ◌<◌, ◌≡◌, ◌⊎◌, ◌≢◌, ◌↔◌, Bool, true, cond}
use Rattle.std.proofs.Math.Path.{refl, subst, ap}
use Rattle.std.proofs.Common.{sym, ◌∙◌, inl, inr, ⊎_elim, leb-true, arith}
use Rattle.std.proofs.Math.Bool.{false}
use Rattle.std.proofs.lemmas.Bool.{false≢true}
use mathlib.Core.List.Memᴰ
use mathlib.Core.List.{List, [], ◌∷◌, ◌++◌, append_assoc, append-nil, Memᴰ}
use Rattle.std.proofs.Math.Option.{Option, none, some}
use Rattle.std.proofs.Math.Decide.{ℕ_discrete}
use Rattle.laws.specs.Test.{by_test, clash, both, and_l, and_r}
use Rattle.laws.specs.Scan.{lowest-none}
use Rattle.laws.specs.Lists.{has_intro}
use Rattle.spec.specs.Ids.{Id, Link, same_id, fits}
use Rattle.spec.specs.Store.{Resolution, Point, Memory, Store, Look, resolved_at, named_at, never, id_at, round_at, resolved, links, links_to, retained, is_named, find, look_at, look, with_points}
use Rattle.spec.specs.Chain.{Refusal, number, conflict, Out, bad, good, EnqueuedAnchor, anchors_of}
use Rattle.spec.specs.History.{Need, hand, lowest, tested, dequeued, set_committed}
use Rattle.spec.specs.Calls.{Answer, refused, done, number_of, Outcome, do_commit, finish, StartArgs, memory_kept, begun, new_point, name_at, do_name, with_path_heights, resolved_as, resolve_at, set_top, certify_at, Call, start, reset_all, round, name, resolve, certify, gap_question, commit, outlook, remove, drop as drop_to, perform, call}
use Rattle.spec.specs.HeightEquations.{inside}
use Rattle.spec.specs.WellFormed.{Wf}
use Rattle.spec.specs.Walk.{same_id_lem, id_same, find-some}
use Rattle.spec.proofs.Refusals.{Sound, is_other, other_is, tested_sound}
use Rattle.spec.specs.Outlook.{commit_was}
use Rattle.spec.proofs.Accepted.{finish_store, Naming, name_way, resolve_way, certify_way}
use Rattle.spec.specs.Demand.{InList, AllInList, after, is_done}
use Rattle.spec.proofs.Preservation.{FineStop, commit_sound, not_reset, name_at_lem, name_off, begun_kept, perform_kept, call-perform, start-begun}
use Rattle.spec.proofs.Demand3Calls.{changes_point, steady}
use Rattle.spec.proofs.Demand3Paths.{LogOf, numbers_log, round_log, drain_log, name_bottom}

-- ---- the look-up's laws

-- the answer for a place in use, by whether its point is resolved
abbrev found_as : Bool → ℕ → Look
found_as b q = elim b [ true ↦ resolved_at q | false ↦ named_at q ]

found-same : (b c : Bool) (x q : ℕ) → found_as b x ≡ found_as c q → (x ≡ q) × (b ≡ c)
found-same true true x q h = (cc, refl)
found-same true false x q h = absurd (let o : ◌≡◌ {A = ℕ} 0 1 = cc in omega arith)
found-same false true x q h = absurd (let o : ◌≡◌ {A = ℕ} 0 1 = cc in omega arith)
found-same false false x q h = (cc, refl)

found_not : (b : Bool) (q : ℕ) → found_as b q ≡ never → ⊥
found_not true q h = let o : ◌≡◌ {A = ℕ} 0 1 = cc in omega arith
found_not false q h = let o : ◌≡◌ {A = ℕ} 0 1 = cc in omega arith

named_is : (s : Store) (i : Id) (q : ℕ) → (s.pt q).named ≡ true → id_at s q ≡ i → is_named s i q ≡ true
unfolding is_named
named_is s i q n e = both n (subst (λ x. same_id x i ≡ true) (sym e) (id_same i))

module _ (s : Store) (i : Id) where
  found_is : (b : Bool) (q : ℕ) → (look s i ≡ found_as b q) ↔ ((find s i ≡ some q) × (resolved (s.pt q) ≡ b))
  unfolding look look_at
  found_is b q = ((λ h. to (find s i) refl h), λ (e, t). rw (e, look) (ap (λ c. found_as c q) t))
    where
      to : (o : Option ℕ) → find s i ≡ o → elim o as (λ z. Look) [ none ↦ never | some x ↦ look_at s x ] ≡ found_as b q → (find s i ≡ some q) × (resolved (s.pt q) ≡ b)
      to none e h = absurd (found_not b q (sym h))
      to (some x) e h = let (m, t) = found-same (resolved (s.pt x)) b x q h in (e ∙ ap some m, subst (λ z. resolved (s.pt z) ≡ b) m t)

  -- "resolved, named only, never named": found and resolved ..
  pub look-resolved : (q : ℕ) → (look s i ≡ resolved_at q) ↔ ((find s i ≡ some q) × (resolved (s.pt q) ≡ true))
  look-resolved = found_is true

  -- .. found and not resolved ..
  pub look-named : (q : ℕ) → (look s i ≡ named_at q) ↔ ((find s i ≡ some q) × (resolved (s.pt q) ≡ false))
  look-named = found_is false

  -- .. and no place has the id
  pub look-never : (look s i ≡ never) ↔ ((q : ℕ) → q < s.places → is_named s i q ≡ false)
  unfolding look look_at find
  look-never = ((λ h. to (find s i) refl h), λ f. back (find s i) refl f)
    where
      to : (o : Option ℕ) → find s i ≡ o → elim o as (λ z. Look) [ none ↦ never | some x ↦ look_at s x ] ≡ never → (q : ℕ) → q < s.places → is_named s i q ≡ false
      to none e h = lowest-none s.places (is_named s i) e
      to (some x) e h = absurd (found_not (resolved (s.pt x)) x h)

      back : (o : Option ℕ) → find s i ≡ o → ((q : ℕ) → q < s.places → is_named s i q ≡ false) → elim o as (λ z. Look) [ none ↦ never | some x ↦ look_at s x ] ≡ never
      back none e f = refl
      back (some x) e f = let y = find-some s i x e in absurd (clash (named_is s i x y.named y.is) (f x y.inside))

-- of a named point's own id the look-up finds its place
pub look-own : (s : Store) → Wf s → (q : ℕ) → (s.pt q).named ≡ true → look s (id_at s q) ≡ look_at s q
unfolding look find
look-own s w q n = go (find s (id_at s q)) refl
  where
    go : (o : Option ℕ) → find s (id_at s q) ≡ o → elim o as (λ z. Look) [ none ↦ never | some x ↦ look_at s x ] ≡ look_at s q
    go none e = absurd (clash (named_is s (id_at s q) q n refl) (lowest-none s.places (is_named s (id_at s q)) e q (inside s w.sized q n)))
    go (some x) e = let y = find-some s (id_at s q) x e in ap (look_at s) (w.apart x q y.named n (ap (λ (i : Id). i.round) y.is) (ap (λ (i : Id). i.digest) y.is))

-- ---- where 25 comes from

-- a number other than 25
abbrev Late : Refusal → Type 0
Late r = number_of r ≢ 25

late : (n : ℕ) → is_other n ≡ true → Late (number n)
unfolding number_of
late n o = (other_is n o).3

late-number : (n : ℕ) → n ≢ 25 → Late (number n)
unfolding number_of
late-number n h = h

late-conflict : (r : ℕ) → Late (conflict r)
unfolding number_of
late-conflict r = omega arith

-- the tests of an anchor, its history among them, never refuse with 25 ..
pub history_25 : (s : Store) (a : ℕ) (r : Refusal) → tested s a ≡ bad r → number_of r ≢ 25
history_25 s a r e = subst (Sound Late) e (tested_sound Late late late-conflict s a)

-- .. so a commit so refused was refused by the walk, with no anchor finished
pub commit_25 : (s : Store) (i : Id) (ls b : List ℕ) (r : Refusal) (n : ℕ) → (do_commit s i ls b).answer ≡ refused r n → number_of r ≡ 25 → (anchors_of s i ≡ bad r) × (n ≡ 0)
unfolding do_commit
commit_25 s i ls b r n h k =
    ⊎_elim (λ u. (u, none_done u)) (λ (es, u, v). absurd (subst (FineStop Late) v (commit_sound Late late late-conflict (late-number 20 (omega arith)) (late-number 24 (omega arith)) s ls b 0 0 es) k)) (commit_was s i ls b r n h)
  where
    at_once : anchors_of s i ≡ bad r → refused r 0 ≡ refused r n
    at_once u = (rw (u, do_commit) refl) ∙ h

    none_done : anchors_of s i ≡ bad r → n ≡ 0
    none_done u = let e = at_once u in cc

-- and nothing is lost by it: a link of a needed point that hands on its links, into a round from the lowest on, leads to a named point,
-- which is needed
pub history-links : (s : Store) → Wf s → (a q : ℕ) → Need s a q → (s.pt q).flags.committed ≡ false → resolved (s.pt q) ≡ true → (l : Link) → Memᴰ l (links (s.pt q)) → lowest s a + l.dist ≤ round_at s q
    → (p : ℕ) × ((s.pt p).named ≡ true) × (fits (round_at s q) (id_at s p) l ≡ true) × Need s a p
unfolding links_to
history-links s w a q n c h l m low =
    let (p, k, f) = w.leads q h l m (omega (arith, low)) in
    (p, k, f, hand q p n c (both h (both k (has_intro (fits (round_at s q) (id_at s p)) (links (s.pt q)) l m f))))

-- ---- 'never named' of lists of calls

-- the id that a call named
unfoldable pub named_by : Call → Answer → List Id
named_by c a = elim c [ start b ↦ [] | reset_all ↦ [] | round r peers ↦ [] | name i ↦ cond (is_done a) (i ∷ []) [] | resolve i t ↦ [] | certify i ↦ [] | gap_question ↦ [] | commit i l b ↦ [] | outlook i b ↦ [] | remove r from b ↦ [] | drop_to r ↦ [] ]

-- the ids that accepted names of a list named
unfoldable pub names : Store → List Call → List Id
names s [] = []
names s (c ∷ cs) = named_by c (call s c).answer ++ names (call s c).store cs

-- 02, N3: "Support can't tell a late point from one that was never announced." After a start that isn't refused and any list of the ten
-- calls, the look-up of an id of a retained round says 'never named' exactly if no accepted name of the list named it.
abbrev pub NeverNamed : Type 0
NeverNamed = (s : Store) (b : StartArgs) (cs : List Call) → (call s (start b)).answer ≡ done → AllInList cs
    → let t = (call s (start b)).store in (i : Id) → retained (after t cs) i.round ≡ true → (look (after t cs) i ≡ never) ↔ (Memᴰ i (names t cs) → ⊥)

-- the store has the ids N at named places, as far as the rounds are retained
abbrev Names : Store → List Id → Type 0
Names s N = LogOf (λ p. p.named) (λ p. p.id) (λ i. i.round) s N

res_names : (N : List Id) (s : Store) (t : Resolution) (q : ℕ) → Names s N → Names (resolve_at s t q) N
unfolding resolve_at with_path_heights with_points resolved_as
res_names N s t q l = record { all = l.all; only = l.only }

cert_names : (N : List Id) (s : Store) (q : ℕ) → Names s N → Names (certify_at s q) N
unfolding certify_at with_path_heights with_points set_top
cert_names N s q l = record { all = l.all; only = l.only }

mark-names : (N : List Id) (s : Store) (e : EnqueuedAnchor) → Names s N → Names (dequeued s e) N
unfolding dequeued set_committed
mark-names N s e l = record { all = l.all; only = l.only }

name-names : (s : Store) (i : Id) (t : Store) → Wf s → Naming s i t → (N : List Id) → Names s N → Names t (N ++ (i ∷ []))
unfolding new_point
name-names s i t w n N l = subst (λ x. Names x (N ++ (i ∷ []))) n.is (record {
  all = λ p h. all p h (ℕ_discrete p n.place);
  only = λ x m h. only x (subst (λ k. k ≤ x.round) (name_bottom s i n.place) h) (Memᴰ.append_cases N m);
})
  where
    off : (p : ℕ) → p ≢ n.place → (name_at s i n.place).pt p ≡ s.pt p
    off = name_off s w i n.place n.inside n.unused n.id.low n.id.high n.new

    here : (name_at s i n.place).pt n.place ≡ new_point i
    here = name_at_lem s w i n.place n.inside n.unused n.id.low n.id.high n.new

    all : (p : ℕ) → ((name_at s i n.place).pt p).named ≡ true → Dec (p ≡ n.place) → Memᴰ ((name_at s i n.place).pt p).id (N ++ (i ∷ []))
    all p h (yes e) = Memᴰ.append_right N (Memᴰ.head (ap (λ x. ((name_at s i n.place).pt x).id) e ∙ ap (λ (x : Point). x.id) here))
    all p h (no e) = Memᴰ.append_left (i ∷ []) (subst (λ (x : Point). Memᴰ x.id N) (sym (off p e)) (l.all p (subst (λ (x : Point). x.named ≡ true) (off p e) h)))

    old : (x : Id) → (p : ℕ) × ((s.pt p).named ≡ true) × ((s.pt p).id ≡ x) → (p : ℕ) × (((name_at s i n.place).pt p).named ≡ true) × (((name_at s i n.place).pt p).id ≡ x)
    old x (p, h, k) = (p, subst (λ (y : Point). y.named ≡ true) (sym m) h, ap (λ (y : Point). y.id) m ∙ k)
      where
        m : (name_at s i n.place).pt p ≡ s.pt p
        m = off p (λ z. clash (subst (λ y. (s.pt y).named ≡ true) z h) n.unused)

    only : (x : Id) → s.bottom ≤ x.round → Memᴰ x N ⊎ Memᴰ x (i ∷ []) → (p : ℕ) × (((name_at s i n.place).pt p).named ≡ true) × (((name_at s i n.place).pt p).id ≡ x)
    only x h (inl m) = old x (l.only x m h)
    only x h (inr m) = (n.place, ap (λ (y : Point). y.named) here, ap (λ (y : Point). y.id) here ∙ sym (Memᴰ.eq_of_singleton m))

naming_names : (s : Store) (i : Id) (N : List Id) → Wf s → Names s N → Names (finish s (do_name s i)).store (N ++ named_by (name i) (finish s (do_name s i)).answer)
unfolding finish named_by is_done
naming_names s i N w l = go (do_name s i) refl
  where
    go : (o : Out Store) → do_name s i ≡ o → Names (finish s o).store (N ++ named_by (name i) (finish s o).answer)
    go (bad r) e = subst (Names s) (sym (append-nil N)) l
    go (good t) e = name-names s i t w (name_way s i t e) N l

-- every call: a name adds its id, the others none
call-names : (s : Store) (c : Call) (N : List Id) → Wf s → InList c → Names s N → Names (perform s c).store (N ++ named_by c (perform s c).answer)
unfolding perform named_by changes_point
call-names s c N w h l = go c h
  where
    same : (t : Store) → Names t N → Names t (N ++ [])
    same t k = subst (Names t) (sym (append-nil N)) k

    calm : (c : Call) → InList c → changes_point c ≡ false → Names (perform s c).store (N ++ [])
    calm c h k = same _ (steady (λ t. Names t N) (numbers_log _ _ _ N) (round_log _ _ _ N) (mark-names N) (drain_log _ _ _ N (λ p n. n) (λ p. refl)) s w c h k l)

    go : (c : Call) → InList c → Names (perform s c).store (N ++ named_by c (perform s c).answer)
    go (start b) h = calm (start b) h refl
    go reset_all h = absurd h
    go (round r peers) h = calm (round r peers) h refl
    go (name i) h = naming_names s i N w l
    go (resolve i t) h = same _ (finish_store (λ t. Names t N) s _ l (λ x k. let r = resolve_way s i t x k in subst (λ y. Names y N) r.is (res_names N s t r.place l)))
    go (certify i) h = same _ (finish_store (λ t. Names t N) s _ l (λ x k. let r = certify_way s i x k in subst (λ y. Names y N) r.is (cert_names N s r.place l)))
    go gap_question h = calm gap_question h refl
    go (commit i ls b) h = calm (commit i ls b) h refl
    go (outlook i b) h = calm (outlook i b) h refl
    go (remove r from b) h = calm (remove r from b) h refl
    go (drop_to r) h = calm (drop_to r) h refl

run_names : (s : Store) (cs : List Call) (N : List Id) → Wf s → AllInList cs → Names s N → Wf (after s cs) × Names (after s cs) (N ++ names s cs)
unfolding after names
run_names s [] N w a l = (w, subst (Names s) (sym (append-nil N)) l)
run_names s (c ∷ cs) N w (a, rest) l = subst (λ (o : Outcome). Wf (after o.store cs) × Names (after o.store cs) (N ++ (named_by c o.answer ++ names o.store cs))) (sym (call-perform s w c))
    (let (v, k) = run_names (perform s c).store cs (N ++ named_by c (perform s c).answer) (perform_kept s w c (not_reset InList (λ k. k) c a)) rest (call-names s c N w a l) in
    (v, subst (Names (after (perform s c).store cs)) (append_assoc N (named_by c (perform s c).answer) (names (perform s c).store cs)) k))

begun-names : (n : ℕ) (m : Memory) (b : StartArgs) → Names (begun n m b) []
unfolding begun
begun-names n m b = record { all = λ p k. absurd (false≢true k); only = λ g k. absurd (Memᴰ.not-nil k) }

-- the look-up and the names behind a store
look-names : (s : Store) (N : List Id) → Wf s → Names s N → (i : Id) → s.bottom ≤ i.round → (look s i ≡ never) ↔ (Memᴰ i N → ⊥)
unfolding is_named
look-names s N w l i b = ((λ h m. there h (l.only i m b)), λ f. (look-never s i).1 (λ q k. by_test (is_named s i q) (λ t. absurd (f (at q t))) (λ e. e)))
  where
    there : look s i ≡ never → (p : ℕ) × ((s.pt p).named ≡ true) × (id_at s p ≡ i) → ⊥
    there h (p, n, e) = clash (named_is s i p n e) ((look-never s i).0 h p (inside s w.sized p n))

    at : (q : ℕ) → is_named s i q ≡ true → Memᴰ i N
    at q t = Memᴰ.cast (sym (same_id_lem _ _ (and_r (s.pt q).named _ t))) (l.all q (and_l _ _ t))

pub never-named : NeverNamed
never-named s b cs h a =
    let (ok, e) = start-begun s b h in
    subst (λ t. (i : Id) → retained (after t cs) i.round ≡ true → (look (after t cs) i ≡ never) ↔ (Memᴰ i (names t cs) → ⊥)) (sym e) (λ i r.
    let (w, l) = run_names (begun s.places (memory_kept s) b) cs [] (begun_kept s.places (memory_kept s) b ok) a (begun-names s.places (memory_kept s) b) in
    look-names _ _ w l i (leb-true _ _ (and_l _ _ r)))
