-- The links of a place as 01's links: link k is under the peer k % 32 and leads 1 + k / 32 rounds down.
use Prim.Native.Nat.{ℕ, zero, suc, ◌+◌, ◌-◌, ◌*◌, ◌%◌, ◌≤◌, ◌<◌}
use Rattle.std.specs.Prelude.{◌≡◌, ltb}
use Rattle.std.proofs.Math.Path.{refl, sym}
use Rattle.std.proofs.Common.{◌∙◌, ap}
use Rattle.std.proofs.Math.Logic.{⊎_elim}
use mathlib.Core.List.Memᴰ
use mathlib.Core.List.{List, map, Memᴰ}
use native.Mathlib.Omega.{arith}
use borrow.Author.Tests.{ltb-true, lt-ltb}
use Rattle.laws.specs.Test.{by_test, same_or, le_or}
use Rattle.laws.specs.Lists.{mem_map, map_mem}
use Rattle.spec.specs.Ids.{Ref, Link, leads, links_of}
use Rattle.models.specs.Digest.{digest_at}
use Rattle.models.specs.Tables.{target_at, dist}
use Rattle.commit_state.specs.View.{refs_from}

module _ (ls : List ℕ) (q : ℕ) where
  abbrev pub ref_at : ℕ → ℕ → Ref
  ref_at b j = record { peer = j; digest = digest_at ls (q * 328 + 72 + (b + j) * 4) }

  abbrev pub link_at : ℕ → Link
  link_at k = record { dist = dist k; to = record { peer = k % 32; digest = digest_at ls (q * 328 + 72 + k * 4) } }

  -- the references are those of the peers with a target
  abbrev Found : ℕ → ℕ → ℕ → Ref → Type 0
  Found b k m r = (j : ℕ) × (k ≤ j) × (j < k + m) × (0 < target_at ls q (b + j)) × (r ≡ ref_at b j)

  wider : (b k m : ℕ) (r : Ref) → Found b (k + 1) m r → Found b k (suc m) r
  wider b k m r (j, l, u, t, e) = (j, omega arith, omega arith, t, e)

  pub refs_elim : (b k m : ℕ) (r : Ref) → Memᴰ r (refs_from ls q b k m) → Found b k m r
  unfolding refs_from
  refs_elim b k zero r x = absurd (Memᴰ.not-nil x)
  refs_elim b k (suc m) r x =
      by_test (ltb 0 (target_at ls q (b + k)))
      (λ t. ⊎_elim (λ e. (k, omega arith, omega arith, ltb-true _ _ t, e)) (λ y. wider b k m r (refs_elim b (k + 1) m r y)) (Memᴰ.cases_cons (rw (t, refs_from) at x)))
      (λ f. wider b k m r (refs_elim b (k + 1) m r (rw (f, refs_from) at x)))

  pub refs_intro : (b k m j : ℕ) → k ≤ j → j < k + m → 0 < target_at ls q (b + j) → Memᴰ (ref_at b j) (refs_from ls q b k m)
  unfolding refs_from
  refs_intro b k zero j l u t = absurd (omega arith)
  refs_intro b k (suc m) j l u t =
      same_or j k
      (λ e. rw (lt-ltb 0 (target_at ls q (b + k)) (rw e at t), refs_from) (Memᴰ.head (ap (ref_at b) e)))
      (λ d. let y = refs_intro b (k + 1) m j (omega arith) (omega arith) t in
      by_test (ltb 0 (target_at ls q (b + k))) (λ h. rw (h, refs_from) (Memᴰ.tail y)) (λ h. rw (h, refs_from) y))

  -- a reference with its distance is a link
  as_link : (b d j k : ℕ) → k ≡ b + j → d ≡ dist k → j ≡ k % 32 → leads d (ref_at b j) ≡ link_at k
  as_link b d j k e f g = λ i. record { dist = f i; to = record { peer = g i; digest = digest_at ls (q * 328 + 72 + sym e i * 4) } }

  abbrev all : List Link
  all = links_of (refs_from ls q 0 0 32) (refs_from ls q 32 0 32)

  pub links_elim : (l : Link) → Memᴰ l all → (k : ℕ) × (k < 64) × (0 < target_at ls q k) × (l ≡ link_at k)
  unfolding links_of
  links_elim l x = ⊎_elim (one 0 1 (omega arith) (λ j u. (omega arith, omega arith))) (one 32 2 (omega arith) (λ j u. (omega arith, omega arith))) (Memᴰ.append_cases (map (leads 1) (refs_from ls q 0 0 32)) x)
    where
      one : (b d : ℕ) → b ≤ 32 → ((j : ℕ) → j < 32 → (d ≡ dist (b + j)) × (j ≡ (b + j) % 32)) → Memᴰ l (map (leads d) (refs_from ls q b 0 32)) → (k : ℕ) × (k < 64) × (0 < target_at ls q k) × (l ≡ link_at k)
      one b d s f m =
          let (r, y, e) = mem_map (leads d) (refs_from ls q b 0 32) l m in
          let (j, a, u, t, g) = refs_elim b 0 32 r y in
          let v : j < 32 = omega arith in
          (b + j, omega arith, t, sym e ∙ (ap (leads d) g ∙ as_link b d j (b + j) refl (f j v).0 (f j v).1))

  pub links_intro : (k : ℕ) → k < 64 → 0 < target_at ls q k → Memᴰ (link_at k) all
  unfolding links_of
  links_intro k l t =
      le_or 32 k
      (λ m. Memᴰ.append_right (map (leads 1) (refs_from ls q 0 0 32)) (one 32 2 (k - 32) (omega arith) (omega arith) (omega arith) (omega arith)))
      (λ m. Memᴰ.append_left (map (leads 2) (refs_from ls q 32 0 32)) (one 0 1 k (omega arith) (omega arith) (omega arith) (omega arith)))
    where
      one : (b d j : ℕ) → j < 32 → k ≡ b + j → d ≡ dist k → j ≡ k % 32 → Memᴰ (link_at k) (map (leads d) (refs_from ls q b 0 32))
      one b d j u e f g = Memᴰ.cast (sym (as_link b d j k e f g)) (map_mem (leads d) (refs_from ls q b 0 32) (ref_at b j) (refs_intro b 0 32 j (omega arith) (omega arith) (rw e at t)))
