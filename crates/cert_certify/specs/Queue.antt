-- The places in the queue, and one place more.
use Rattle.std.specs.Prelude.{ℕ, zero, suc, ◌+◌, ◌-◌, ◌*◌, ◌/◌, ◌≤◌, ◌<◌, ◌≡◌, refl, ◌⊎◌, ◌≢◌, List, true, cond, ltb, get_or, length, replicate}
use Rattle.std.proofs.Math.Path.{sym}
use Rattle.std.proofs.Common.{◌∙◌, ap, lt-ltb, le-ltb}
use Rattle.std.proofs.Math.Logic.{inl, inr}
use native.Mathlib.Omega.{arith}
use Rattle.std.proofs.Math.ListN.{length-set, length-replicate}
use Rattle.std.proofs.Math.Seq.{get_or-set_same, get_or-set_other}
use Rattle.laws.specs.Test.{by_test, clash, same_or, le_or}
use Rattle.laws.specs.Scan.{those, those-yes, those_most}
use Rattle.models.specs.Cert.{with_height}
use Rattle.models.specs.Tables.{place_at, Used, is_used, used_is, target_at, dist}
use Rattle.models.specs.Live.{reach}
use Rattle.tables_heights.specs.View.{height_at}
use Rattle.tables_test.specs.Count.{positions_fewer}
use Rattle.cert_certify.specs.Model.{Work, queued, passed, visited, propagated, start, traversed, visited-stays, handed-same, first-visited}

-- place p is in the queue
abbrev pub Queued : Work → ℕ → Type 0
Queued w p = Used w.queue w.tail p

-- no place is in it twice
abbrev pub Once : Work → Type 0
Once w = (i j : ℕ) → i < w.tail → j < w.tail → place_at w.queue i ≡ place_at w.queue j → i ≡ j

-- by cases: in the queue or not
pub queued_or : {A : Type 0} (w : Work) (p : ℕ) → (Queued w p → A) → ((Queued w p → ⊥) → A) → A
queued_or w p f g =
    let t = used_is w.queue w.tail p in
    by_test (is_used w.queue w.tail p) (λ h. f (t.0 h)) (λ h. g (λ u. clash (t.1 u) h))

-- all numbers below m pass
all_pass : (m : ℕ) → m ≤ length (those m (λ i. true))
all_pass zero = omega arith
all_pass (suc m) = omega (arith, all_pass m, those-yes m (λ i. true) refl)

-- m different places below P: at most P
few : (P m : ℕ) (at : ℕ → ℕ) → ((i j : ℕ) → i < m → j < m → at i ≡ at j → i ≡ j) → ((i : ℕ) → i < m → at i < P) → m ≤ P
few P m at one inside = omega (arith, all_pass m, positions_fewer P at (λ p. true) m one inside, those_most P (λ p. true))

module _ (P : ℕ) (w : Work) (once : Once w) (inside : (p : ℕ) → Queued w p → p < P) where
  -- at most P places are in the queue
  pub queue_most : w.tail ≤ P
  queue_most = few P w.tail (place_at w.queue) once (λ i l. inside _ (i, l, refl))

  -- fewer, if another place is not in it
  pub queue_room : (t : ℕ) → t < P → (Queued w t → ⊥) → w.tail < P
  queue_room t low new = few P (suc w.tail) at one bound
    where
      at : ℕ → ℕ
      at i = cond (ltb i w.tail) (place_at w.queue i) t

      at_old : (i : ℕ) → i < w.tail → at i ≡ place_at w.queue i
      at_old i l = rw (lt-ltb i w.tail l) refl

      at_new : (i : ℕ) → w.tail ≤ i → at i ≡ t
      at_new i l = rw (le-ltb i w.tail l) refl

      one : (i j : ℕ) → i < suc w.tail → j < suc w.tail → at i ≡ at j → i ≡ j
      one i j l m e =
          le_or w.tail i
          (λ a. le_or w.tail j (λ b. omega arith) (λ b. absurd (new (j, b, sym (at_old j b) ∙ (sym e ∙ at_new i a)))))
          (λ a. le_or w.tail j
          (λ b. absurd (new (i, a, sym (at_old i a) ∙ (e ∙ at_new j b))))
          (λ b. once i j a b (sym (at_old i a) ∙ (e ∙ at_old j b))))

      bound : (i : ℕ) → i < suc w.tail → at i < P
      bound i l = le_or w.tail i (λ a. omega (arith, at_new i a)) (λ a. omega (arith, at_old i a, inside _ (i, a, refl)))

-- the queue v goes on where w ends: queued places keep their words, and no height falls
pub record Grows (w v : Work) : Type 0 where
  pub entries : (i : ℕ) → i < w.tail → (i < v.tail) × (place_at v.queue i ≡ place_at w.queue i)
  pub words : (p : ℕ) → Queued w p → get_or v.certs p 0 ≡ get_or w.certs p 0
  pub rises : (p : ℕ) → height_at w.certs p ≤ height_at v.certs p

-- nothing is done
pub grows_same : (w : Work) → Grows w w
grows_same w = record { entries = λ i l. (l, refl); words = λ p u. refl; rises = λ p. omega arith }

-- what is queued stays queued
pub grows_queued : (w v : Work) → Grows w v → (p : ℕ) → Queued w p → Queued v p
grows_queued w v g p (i, l, e) = let (m, d) = g.entries i l in (i, m, d ∙ e)

-- one stretch of work after another
pub grows_twice : (u w v : Work) → Grows u w → Grows w v → Grows u v
grows_twice u w v f g = record {
  entries = λ i l. let (m, d) = f.entries i l in let (o, e) = g.entries i m in (o, e ∙ d);
  words = λ p i. g.words p (grows_queued u w f p i) ∙ f.words p i;
  rises = λ p. omega (arith, f.rises p, g.rises p);
}

-- place t is queued with the height v
module _ (w : Work) (t v : ℕ) (room : w.tail < length w.queue) (new : Queued w t → ⊥) where
  -- the entries before it stay
  entry_old : (i : ℕ) → i < w.tail → place_at (queued w t v).queue i ≡ place_at w.queue i
  unfolding queued
  entry_old i l = get_or-set_other w.queue w.tail i t 0 (λ e. omega arith)

  -- it is the last
  entry_new : place_at (queued w t v).queue w.tail ≡ t
  unfolding queued
  entry_new = get_or-set_same w.queue w.tail t 0 room

  -- the others were there before
  pub queued_cases : (p : ℕ) → Queued (queued w t v) p → (p ≡ t) ⊎ Queued w p
  unfolding queued
  queued_cases p (i, l, e) =
      same_or i w.tail
      (λ d. inl (sym e ∙ (rw d entry_new)))
      (λ d. inr (i, omega arith, sym (entry_old i (omega arith)) ∙ e))

  -- it is in the queue
  pub queued_last : Queued (queued w t v) t
  unfolding queued
  queued_last = (w.tail, omega arith, entry_new)

  -- still no place is in it twice
  pub queued_once : Once w → Once (queued w t v)
  unfolding queued
  queued_once once i j l m e =
      same_or i w.tail
      (λ a. same_or j w.tail
      (λ b. a ∙ sym b)
      (λ b. absurd (new (j, omega arith, sym (entry_old j (omega arith)) ∙ (sym e ∙ rw a entry_new)))))
      (λ a. same_or j w.tail
      (λ b. absurd (new (i, omega arith, sym (entry_old i (omega arith)) ∙ (e ∙ rw b entry_new))))
      (λ b. once i j (omega arith) (omega arith) (sym (entry_old i (omega arith)) ∙ (e ∙ entry_old j (omega arith)))))

  -- another place keeps its word
  pub queued-other : (p : ℕ) → p ≢ t → get_or (queued w t v).certs p 0 ≡ get_or w.certs p 0
  unfolding queued
  queued-other p d = get_or-set_other w.certs t p _ 0 d

  -- its own word
  pub queued-word : t < length w.certs → get_or (queued w t v).certs t 0 ≡ get_or w.certs t 0 / 4096 * 4096 + v
  unfolding queued with_height
  queued-word l = get_or-set_same w.certs t _ 0 l

  -- the work goes on, if the height rises
  pub queued_grows : t < length w.certs → height_at w.certs t < v → v < 4096 → Grows w (queued w t v)
  unfolding queued
  queued_grows l up small = record {
    entries = λ i k. (omega arith, entry_old i k);
    words = λ p u. queued-other p (λ e. new (rw e at u));
    rises = λ p. same_or p t (λ e. rw e (omega (arith, queued-word l))) (λ e. rw (queued-other p e) (omega arith));
  }

-- the queue at first
module _ (cs : List ℕ) (q : ℕ) where
  -- the length of the queue's array
  pub start_cells : length (start cs q).queue ≡ 4096
  unfolding start
  start_cells = length-set (replicate 4096 0) 0 q ∙ length-replicate {A = ℕ} 4096 0

  -- its first entry
  start-entry : place_at (start cs q).queue 0 ≡ q
  unfolding start
  start-entry = get_or-set_same (replicate 4096 0) 0 q 0 (omega (arith, length-replicate {A = ℕ} 4096 0))

  -- no other place is in it
  pub start-only : (p : ℕ) → Queued (start cs q) p → p ≡ q
  unfolding start
  start-only p (i, l, e) = let d : i ≡ 0 = omega arith in sym e ∙ rw d start-entry

  -- q is
  pub start-queued : Queued (start cs q) q
  unfolding start
  start-queued = (0, omega arith, start-entry)

-- nothing is handed on from a place whose links have it
pub traversed-same : (b : ℕ) (ks ls cs : List ℕ) (q : ℕ) → ((k : ℕ) → k < reach b ks q → 0 < target_at ls q k → height_at cs q ≤ height_at cs (target_at ls q k - 1) + dist k) → traversed b ks ls cs q ≡ cs
unfolding traversed propagated start passed
traversed-same b ks ls cs q f =
    let w : Work = start cs q in
    let one : visited b ks ls w 1 ≡ w = first-visited b ks ls w (omega arith) ∙ (ap (passed b ks ls w) (start-entry cs q) ∙ handed-same (target_at ls q) (height_at cs q) w (reach b ks q) f (reach b ks q) (omega arith)) in
    ap (λ (v : Work). v.certs) (visited-stays b ks ls w 1 4096 (omega (arith, ap (λ (v : Work). v.tail) one)) (omega arith) ∙ one)
