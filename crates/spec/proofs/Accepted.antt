-- What an accepted call did, and under what tests.
use Rattle.std.specs.Prelude.{ℕ, suc, ◌-◌, ◌≤◌, ◌<◌, ◌≡◌, refl, ◌⊎◌, true, false, not, ◌||◌, List, leb, ltb}
use Rattle.std.proofs.Common.{sym, ◌∙◌, ap, inl, inr, ⊎_elim, leb-true, leb-false, ltb-false, arith}
use Rattle.std.proofs.Math.Option.{Option, none, some}
use Rattle.std.proofs.lemmas.Bool.{not-true, not-false}
use Rattle.laws.specs.Test.{by_test, and_l, and_r, or_none}
use Rattle.laws.specs.Scan.{any, lowest, lowest-some}
use Rattle.laws.specs.Lists.{has}
use Rattle.laws.specs.Bytes.{written}
use Rattle.spec.specs.Ids.{Id}
use Rattle.spec.specs.Store.{Resolution, Progress, Memory, Store, round_at, resolved, links, find, with_progress, with_memory}
use Rattle.spec.specs.Rules.{is_peer, same_digest, versions, well_formed, dangling, last_round}
use Rattle.spec.specs.Chain.{number, Out, bad, good, refuse, place_of}
use Rattle.spec.specs.History.{gap_pending}
use Rattle.spec.specs.Inspect.{inspected, memory_after, remove_bytes}
use Rattle.spec.specs.Calls.{done, refused, Outcome, finish, do_gap_question, drained, new_bottom, removing, do_remove, do_drop, add_round, do_round, at_id, name_at, into_free, do_name, resolved_as, resolve_at, resolving, do_resolve, certify_at, do_certify}
use Rattle.spec.specs.Walk.{not_good, if_good, then-good, refuse-good, place_at_lem}

-- a call without a buffer leaves the store as it was, or what it gave
pub finish_store : (P : Store → Type 0) (s : Store) (o : Out Store) → P s → ((t : Store) → o ≡ good t → P t) → P (finish s o).store
unfolding finish
finish_store P s (bad r) h f = h
finish_store P s (good t) h f = f t refl

-- "Adding a round at or below the top does nothing."
pub round_way : (s : Store) (r peers : ℕ) (t : Store) → do_round s r peers ≡ good t
    → (s ≡ t) ⊎ ((add_round s peers ≡ t) × (suc s.top ≤ last_round) × (suc s.top - s.bottom < 512))
unfolding do_round
round_way s r peers t h = go (refuse-good _ 3 _ t h)
  where
    add : r ≤ suc s.top → r ≤ last_round → s.top < r → (leb 512 (suc s.top - s.bottom) ≡ false) × (good (add_round s peers) ≡ good t) → (s ≡ t) ⊎ ((add_round s peers ≡ t) × (suc s.top ≤ last_round) × (suc s.top - s.bottom < 512))
    add a b c (f, k) = inr (cc, omega arith, leb-false _ _ f)

    go : ((ltb (suc s.top) r || ltb last_round r) ≡ false) × (◌≡◌ {A = Out Store} (elim (leb r s.top) [ true ↦ good s | false ↦ refuse (leb 512 (suc s.top - s.bottom)) 4 (good (add_round s peers)) ]) (good t))
        → (s ≡ t) ⊎ ((add_round s peers ≡ t) × (suc s.top ≤ last_round) × (suc s.top - s.bottom < 512))
    go (f, k) = ⊎_elim (λ (y, e). inl (cc)) (λ (y, e). add (ltb-false _ _ (or_none _ _ f).0) (ltb-false _ _ (or_none (ltb (suc s.top) r) _ f).1) (leb-false _ _ y) (refuse-good _ 4 _ t e)) (if_good (leb r s.top) _ _ t k)

-- an id that passes 5, 6, 5
pub record AtId (s : Store) (i : Id) : Type 0 where
  pub low : s.bottom ≤ i.round
  pub high : i.round ≤ s.top
  pub peer : is_peer s i ≡ true

pub at_id_lem : {A : Type 0} (s : Store) (i : Id) (o : Out A) (l : A) → at_id s i o ≡ good l → AtId s i × (o ≡ good l)
unfolding at_id
at_id_lem s i o l h =
    let (a, f) = refuse-good _ 5 _ l h in
    let (b, g) = refuse-good _ 6 _ l f in
    let (c, k) = refuse-good _ 5 _ l g in
    (record { low = leb-true _ _ (and_l _ _ (not-false _ b)); high = leb-true _ _ (and_r (leb s.bottom i.round) _ (not-false _ b)); peer = not-false _ c }, k)

pub place-good : (s : Store) (i : Id) (q : ℕ) → place_of s i ≡ good q → find s i ≡ some q
place-good s i q h = go (find s i) refl (sym (place_at_lem s i) ∙ h)
  where
    go : (o : Option ℕ) → find s i ≡ o → ◌≡◌ {A = Out ℕ} (elim o [ none ↦ bad (number 9) | some x ↦ good x ]) (good q) → find s i ≡ some q
    go none e k = absurd (not_good (number 9) q k)
    go (some x) e k = e ∙ ap some (cc)

pub record Naming (s : Store) (i : Id) (t : Store) : Type 0 where
  pub place : ℕ
  pub is : name_at s i place ≡ t
  pub inside : place < s.places
  pub unused : (s.pt place).named ≡ false
  pub id : AtId s i
  pub new : any s.places (same_digest s i) ≡ false
  pub few : versions s i < 4

pub name_way : (s : Store) (i : Id) (t : Store) → do_name s i ≡ good t → Naming s i t
unfolding do_name into_free
name_way s i t h =
    let (a, f) = at_id_lem s i _ t h in
    let (b, g) = refuse-good _ 7 _ t f in
    let (c, k) = refuse-good _ 8 _ t g in
    go a b (leb-false _ _ c) (lowest s.places (λ q. not (s.pt q).named)) refl k
  where
    go : AtId s i → any s.places (same_digest s i) ≡ false → versions s i < 4 → (o : Option ℕ) → lowest s.places (λ q. not (s.pt q).named) ≡ o → into_free s i o ≡ good t → Naming s i t
    go a b c none e k = absurd (not_good (number 4) t k)
    go a b c (some q) e k = let (l, u) = lowest-some s.places (λ q. not (s.pt q).named) q e in
        record { place = q; is = cc; inside = l; unused = not-true _ u; id = a; new = b; few = c }

pub record Resolving (s : Store) (i : Id) (resolution : Resolution) (t : Store) : Type 0 where
  pub place : ℕ
  pub is : resolve_at s resolution place ≡ t
  pub found : find s i ≡ some place
  pub late : resolved (s.pt place) ≡ false
  pub formed : well_formed (round_at s place) resolution ≡ true
  pub tame : has (dangling s (round_at s place)) (links (resolved_as true resolution (s.pt place))) ≡ false

pub resolve_way : (s : Store) (i : Id) (resolution : Resolution) (t : Store) → do_resolve s i resolution ≡ good t → Resolving s i resolution t
unfolding do_resolve resolving
resolve_way s i resolution t h =
    let (a, f) = at_id_lem s i _ t h in
    let (q, p, g) = then-good (place_of s i) _ t f in
    let (b, k) = refuse-good _ 10 _ t g in
    let (c, j) = refuse-good _ 11 _ t k in
    let (d, e) = refuse-good _ 12 _ t j in
    record { place = q; is = cc; found = place-good s i q p; late = b; formed = not-false _ c; tame = d }

pub record Certifying (s : Store) (i : Id) (t : Store) : Type 0 where
  pub place : ℕ
  pub is : certify_at s place ≡ t
  pub found : find s i ≡ some place

pub certify_way : (s : Store) (i : Id) (t : Store) → do_certify s i ≡ good t → Certifying s i t
unfolding do_certify
certify_way s i t h =
    let (a, f) = at_id_lem s i _ t h in
    let (q, p, g) = then-good (place_of s i) _ t f in
    record { place = q; is = cc; found = place-good s i q p }

-- the gap question: progress changes, last anchor and last proof stay
pub gap_question_way : (P : Store → Type 0) (s : Store) → P s → ((p : Progress) → p.last_anchor ≡ s.progress.last_anchor → p.last_proof ≡ s.progress.last_proof → P (with_progress s p)) → P (do_gap_question s).store
unfolding do_gap_question
gap_question_way P s h f = by_test (gap_pending s.progress.gap) (λ t. rw (t, do_gap_question) (f _ refl refl)) (λ e. rw (e, do_gap_question) h)

-- a remove: nothing, or the store drained, with another memory
pub remove_way : (P : Store → Type 0) (s : Store) (r : ℕ) (from : Option ℕ) (b : List ℕ) → P s → ((m : Memory) → P (with_memory (drained s (new_bottom s (r - s.conf.history_rounds))) m)) → P (do_remove s r from b).store
unfolding do_remove
remove_way P s r from b h f = go (removing s r b (remove_bytes s low from))
  where
    low : ℕ
    low = new_bottom s (r - s.conf.history_rounds)

    go : (o : Out (List ℕ)) → P (elim o as (λ x. Outcome) [
      | bad n ↦ record { answer = refused n 0; store = s; buffer = b }
      | good bytes ↦ record { answer = done; store = with_memory (drained s low) (memory_after s s.memory (inspected s low)); buffer = written b 0 bytes }
    ]).store
    go (bad n) = h
    go (good bytes) = f _

-- a drop: the store drained, with last anchor and last proof as they were
pub drop_way : (P : Store → Type 0) (s : Store) (r : ℕ) → ((p : Progress) → p.last_anchor ≡ s.progress.last_anchor → p.last_proof ≡ s.progress.last_proof → P (with_progress (drained s (new_bottom s r)) p)) → P (do_drop s r).store
unfolding do_drop
drop_way P s r f = f _ refl refl
