-- What is noted is the point that document 02 asks for (N7).
use Rattle.std.specs.Prelude.{ℕ, suc, ◌+◌, ◌-◌, ◌≤◌, ◌<◌, ◌≡◌, refl, ◌⊎◌, ◌≢◌, Bool, true, get_or}
use Rattle.std.proofs.Common.{sym, subst, ap, ◌∙◌, inl, inr, ⊎_elim, arith}
use mathlib.Core.List.Memᴰ
use mathlib.Core.List.{List, Memᴰ}
use Rattle.std.proofs.Math.Dec.{eqb}
use borrow.Author.Tests.{eqb-true, eq-eqb}
use Rattle.laws.specs.Test.{clash, both, and_l, and_r, same_or}
use Rattle.laws.specs.Scan.{any_elim, any_intro}
use Rattle.spec.specs.Store as store
use Rattle.spec.specs.Store.{Store, id_at}
use Rattle.spec.specs.Paths.{LinkedTo}
use Rattle.spec.specs.WellFormed.{Wf}
use Rattle.spec.specs.History.{lowest, in_history, behind}
use Rattle.spec.specs.Behind.{Rather, Behind}
use Rattle.spec.proofs.Behind.{linkers_in, anchor-alone, behind_is, behind-one}
use Rattle.spec.proofs.Extension.{fits_in}
use Rattle.models.specs.Digest.{Fit}
use Rattle.models.specs.Tables.{round_at, place_at, target_at, Used}
use Rattle.models.specs.Live.{reach}
use Rattle.tables_heights.specs.Refines.{Leads}
use Rattle.commit_state.specs.declared.state.State.{State}
use Rattle.tables_test.specs.View.{view}
use Rattle.tables_test.specs.Refines.{Started}
use Rattle.dag_round_order.specs.Span.{below-le}
use Rattle.back_history.specs.Model.{is_uncommitted}
use Rattle.back_history.specs.RefinesNeeded.{low_of, high_of, marks_of, used_named, used_round, low_high, link-leads, leads-link}
use Rattle.back_history.specs.Refines.{well, ids_rise, in_elim, in_intro}
use Rattle.back_behind.specs.Model.{sources}
use Rattle.back_behind.specs.Best.{leads_to, hits, Best, sources-best}

-- what is noted for the places of the history of the anchor at a
abbrev pub sources_of : State → List ℕ → List ℕ → List ℕ → List ℕ → ℕ → List ℕ
sources_of s ks ls cs os a = sources s.bottom.0 ks ls cs os (marks_of s ks ls cs os a) (low_of s ks os a) (high_of s ks os a)

module _ (s : State) (ks ls cs os : List ℕ) (fk : Fit ks) (fl : Fit ls) (t : Started s ks ls cs os) (a : ℕ) (used : Used os s.count a) where
  abbrev v : Store
  v = view s ks ls cs os

  -- the positions of the history, its marks, and the test of the pass
  abbrev low : ℕ
  low = low_of s ks os a

  abbrev high : ℕ
  high = high_of s ks os a

  abbrev hit : ℕ → ℕ → Bool
  hit = hits s.bottom.0 ks ls cs os (marks_of s ks ls cs os a)

  high_le : high ≤ s.count
  high_le = below-le ks os s.count (round_at ks a + 1)

  -- the tables keep the rules, the anchor is there
  w : Wf v
  w = well s ks ls cs os fk fl t

  there : (v.pt a).named ≡ true
  there = used_named s ks ls cs os fk fl t a used

  fit : lowest v a ≤ suc (store.round_at v a)
  fit = fits_in v w a there

  -- a place that hits is of the history, and links to q
  hit_elim : (q j : ℕ) → low ≤ j → j < high → hit q j ≡ true → (in_history v a (place_at os j) ≡ true) × LinkedTo v (place_at os j) q
  unfolding hits leads_to
  hit_elim q j l h k =
      let (i, live, to) = any_elim (reach s.bottom.0 ks (place_at os j)) (λ i. eqb (target_at ls (place_at os j) i) (suc q)) (and_r (is_uncommitted cs (marks_of s ks ls cs os a) (place_at os j)) _ k) in (
        in_intro s ks ls cs os fk fl t a used j l h (and_l _ _ k),
        leads-link s ks ls cs os fk fl t (place_at os j) q (record { from = (j, omega (arith, h, high_le), refl); which = i; live = live; to = eqb-true _ _ to }),
      )

  -- and back
  hit_intro : (q p : ℕ) → in_history v a p ≡ true → LinkedTo v p q → (i : ℕ) × (low ≤ i) × (i < high) × (place_at os i ≡ p) × (hit q i ≡ true)
  unfolding hits leads_to
  hit_intro q p h l =
      let (i, lo, hi, e, w) = in_elim s ks ls cs os fk fl t a used p h in
      let k : Leads s.bottom.0 ks ls os s.count p q = link-leads s ks ls cs os fk fl t p q l in (
        i,
        lo,
        hi,
        e,
        rw e (both w (any_intro (reach s.bottom.0 ks p) (λ j. eqb (target_at ls p j) (suc q)) k.which k.live (eq-eqb _ _ k.to))),
      )

  -- the positions that were passed are those of the history
  from_low : (j : ℕ) → high - (high - low) ≤ j → low ≤ j
  from_low j l = omega (arith, l, low_high s ks ls cs os fk fl t a used)

  to_low : (j : ℕ) → low ≤ j → high - (high - low) ≤ j
  to_low j l = omega (arith, l)

  -- what is noted for the point at q
  module _ (q : ℕ) (small : q < 4096) where
    abbrev y : ℕ
    y = get_or (sources_of s ks ls cs os a) q 0

    best : Best ks os (hit q) high (high - low) y
    best = sources-best s.bottom.0 ks ls cs os (marks_of s ks ls cs os a) low high s.count q t.facts.sorted high_le small

    -- "The anchor stands with itself": nothing is noted for it
    pub source_own : q ≡ a → get_or (sources_of s ks ls cs os a) q 0 ≡ 0
    source_own e = ⊎_elim (λ (z, none). z) (λ (j, l, h, k, is, first). absurd (alone j (hit_elim q j (from_low j l) h k))) best
      where
        alone : (j : ℕ) → (in_history v a (place_at os j) ≡ true) × LinkedTo v (place_at os j) q → ⊥
        alone j (i, x) = Memᴰ.not-nil (subst (Memᴰ (place_at os j)) (anchor-alone v w.sized a) ((linkers_in v w.sized a a (place_at os j)).1 (i, subst (LinkedTo v (place_at os j)) e x)))

    -- the place at position j is told, if it is the first of those that hit
    told : (j : ℕ) → low ≤ j → j < high → hit q j ≡ true
        → ((i : ℕ) → high - (high - low) ≤ i → i < high → hit q i ≡ true → (round_at ks (place_at os i) < round_at ks (place_at os j)) ⊎ ((round_at ks (place_at os i) ≡ round_at ks (place_at os j)) × (j ≤ i)))
        → Behind v a q (place_at os j)
    told j l h k first = record {
      inside = (hit_elim q j l h k).0;
      link = (hit_elim q j l h k).1;
      first = λ r m x. let (i, lo, hi, e, g) = hit_intro q r m x in subst (λ p. (p ≡ place_at os j) ⊎ Rather (id_at v (place_at os j)) (id_at v p)) e (rather i hi (first i (to_low i lo) hi g));
    }
      where
        round : (i : ℕ) → i < high → store.round_at v (place_at os i) ≡ round_at ks (place_at os i)
        round i hi = used_round s ks ls cs os fk fl t (place_at os i) (i, omega (arith, hi, high_le), refl)

        rather : (i : ℕ) → i < high → (round_at ks (place_at os i) < round_at ks (place_at os j)) ⊎ ((round_at ks (place_at os i) ≡ round_at ks (place_at os j)) × (j ≤ i))
            → (place_at os i ≡ place_at os j) ⊎ Rather (id_at v (place_at os j)) (id_at v (place_at os i))
        rather i hi (inl less) = inr (inl (omega (arith, less, round i hi, round j h)))
        rather i hi (inr (same, at)) = same_or i j
            (λ e. inl (ap (place_at os) e))
            (λ d. ⊎_elim (λ up. absurd (omega (arith, up, same, round i hi, round j h))) (λ (eq, lower). inr (inr (sym eq, lower))) (ids_rise s ks ls cs os fk fl t j i (omega (arith, at, d)) (omega (arith, hi, high_le))))

    -- any other point has the one that 02 names
    pub source_behind : in_history v a q ≡ true → q ≢ a → get_or (sources_of s ks ls cs os a) q 0 ≡ behind v a q + 1
    source_behind m n = ⊎_elim
        (λ (z, none). let b = behind_is v w a there fit q m n in let (i, lo, hi, e, g) = hit_intro q (behind v a q) b.inside b.link in absurd (clash g (none i (to_low i lo) hi)))
        (λ (j, l, h, k, e, first). e ∙ ap (λ p. p + 1) (sym (behind-one v w a there fit q (place_at os j) m n (told j (from_low j l) h k first))))
        best
