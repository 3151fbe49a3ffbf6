-- Every call but a reset keeps the rules of the tables; after a start none but another start says 2.
use Rattle.std.specs.Prelude.{ℕ, suc, ◌+◌, ◌-◌, ◌≤◌, ◌<◌, ◌≡◌, ◌⊎◌, ◌≢◌, Bool, false, not, ◌&&◌, ◌||◌, leb, ltb}
use Rattle.std.proofs.Math.Path.{refl, sym, subst}
use Rattle.std.proofs.Common.{◌∙◌, ap, ap₂, inl, inr, ⊎_elim, true≢false, eqb-true, leb-true, leb-false, ltb-false, eq-eqb, ne_eqb, le-ltb, arith}
use Rattle.std.proofs.Math.Bool.{true, false≢true}
use mathlib.Core.List.{List, [], ◌∷◌, Memᴰ}
use Rattle.std.proofs.Math.Option.{Option, none, some}
use Rattle.std.proofs.Math.Dec.{eqb}
use Rattle.std.proofs.Math.ListN.{length}
use Rattle.std.proofs.lemmas.Bool.{eqb-false, not-true, not-false}
use Rattle.std.proofs.Math.Nat.{le_trans}
use Rattle.laws.specs.Test.{by_test, clash, both, and_l, and_r, or_r, or_none, or_cases, same_or}
use Rattle.laws.specs.Scan.{any, any_none, those_fewer, those-one, lowest, lowest-some}
use Rattle.laws.specs.Lists.{has}
use Rattle.laws.specs.Bytes.{written}
use Rattle.spec.specs.Ids.{Id, Link, fits, prev}
use Rattle.spec.specs.Store.{Resolution, Point, Round, Memory, Progress, Store, id_at, round_at, status_at, previous, resolved, links, links_to, with_points, with_gap, with_memory, with_numbers}
use Rattle.spec.specs.Paths.{Path, LinkedTo, Top, height_from, IsHeight, height, certified}
use Rattle.spec.specs.Rules.{is_peer, same_digest, version, versions, well_formed, dangling, used_ok, last_round, is_started, counts_as_started}
use Rattle.spec.specs.Chain.{Refusal, number, conflict, Out, bad, good, then, refuse, EnqueuedAnchor, walk, lowest_walked, empty_walk, check_oldest, chain_from, chain, trigger_conflict, filtered, place_of, anchors_of}
use Rattle.spec.specs.History.{set_committed, use_proof, dequeued, in_history, lists_ok, linked_counts, after_lists, record_bytes, test_anchor, Finished, commit_all, tested, gap_pending, outlook_all}
use Rattle.spec.specs.Inspect.{inspected, memory_after, remove_bytes}
use Rattle.spec.specs.Calls.{add_round, new_point, name_at, with_path_heights, resolved_as, resolve_at, set_top, certify_at, drained, StartArgs, start_ok, begun, Answer, done, flag, anchors, refused, number_of, Outcome, without_buffer, finish, memory_kept, do_start, cleared, do_round, at_id, into_free, do_name, resolving, do_resolve, do_certify, do_gap_question, commit_end, do_commit, do_outlook, new_bottom, beyond, removing, do_remove, do_drop, Call, start, reset_all, round, name, resolve, certify, gap_question, commit, outlook, remove, drop, perform, is_start, call}
use Rattle.spec.specs.Graph.{carry, last_link}
use Rattle.spec.specs.Heights.{height_unique, height-rises}
use Rattle.spec.specs.Links.{linked, Linked, fits_elim, resolved-named, source_named}
use Rattle.spec.specs.HeightEquations.{Sized, inside, height_is}
use Rattle.spec.proofs.Changes.{link_res, settled_height, drain-stays, drain_was, drain_sized, drain-height, mark-height}
use Rattle.spec.specs.WellFormed.{Leads, Wf, tame, counts_as_started_elim, counts_as_started_intro}
use Rattle.spec.proofs.Refusals.{Ends, refuse-ends, if_ends, then-ends, Sound, refuse_sound, then_sound, is_other, other_is, place-ends, anchors_sound, tested_sound, outlook_sound}
use Rattle.spec.specs.Walk.{not_good, if_good, then-good, refuse-good, Anchored, Tested, Rising, rising_less}
use Rattle.spec.proofs.Walk.{walk_rising, test_good}

-- ---- progress, memory and rounds

numbers-height : (s : Store) (p : Progress) (m : Memory) → Sized s → (q : ℕ) → height (with_numbers s p m) q ≡ height s q
numbers-height s p m z q = height_unique is (height_is s z q)
  where
    is : IsHeight (LinkedTo s) (round_at s) (Top s) s.conf.history_rounds q (height (with_numbers s p m) q)
    is = unfold with_numbers in height_is (with_numbers s p m) z q

round-height : (s : Store) (peers : ℕ) → Sized s → (q : ℕ) → height (add_round s peers) q ≡ height s q
round-height s peers z q = height_unique is (height_is s z q)
  where
    is : IsHeight (LinkedTo s) (round_at s) (Top s) s.conf.history_rounds q (height (add_round s peers) q)
    is = unfold add_round in height_is (add_round s peers) z q

-- no rule asks for the progress or the memory
pub numbers_kept : (s : Store) (p : Progress) (m : Memory) → Wf s → Wf (with_numbers s p m)
unfolding with_numbers is_peer version
numbers_kept s p m w = record {
  sized = w.sized;
  begun = w.begun;
  places_ok = w.places_ok;
  conf_ok = w.conf_ok;
  low = w.low;
  rounds_ok = w.rounds_ok;
  high = w.high;
  few = w.few;
  used_ok = w.used_ok;
  kept = w.kept;
  peer = w.peer;
  apart = w.apart;
  four = w.four;
  formed = w.formed;
  leads = w.leads;
  heights_are = λ q n. w.heights_are q n ∙ sym (numbers-height s p m w.sized q);
  firm = λ q n c. subst (λ x. 0 < x) (sym (numbers-height s p m w.sized q)) (w.firm q n c);
}

-- a round above the top
pub round_kept : (s : Store) → Wf s → (peers : ℕ) → suc s.top ≤ last_round → suc s.top - s.bottom < 512 → Wf (add_round s peers)
unfolding add_round is_peer version used_ok
round_kept s w peers a b = record {
  sized = w.sized;
  begun = w.begun;
  places_ok = w.places_ok;
  conf_ok = w.conf_ok;
  low = w.low;
  rounds_ok = omega (arith, w.rounds_ok);
  high = a;
  few = b;
  used_ok = λ r l h. by_test (eqb r (suc s.top)) (λ t. rw t refl) (λ f. rw f (w.used_ok r l (below r h (eqb-false _ _ f))));
  kept = λ q n. ((w.kept q n).0, omega (arith, (w.kept q n).1));
  peer = λ q n. rw (ne_eqb (round_at s q) (suc s.top) (λ e. omega (arith, (w.kept q n).1))) (w.peer q n);
  apart = w.apart;
  four = w.four;
  formed = w.formed;
  leads = w.leads;
  heights_are = λ q n. w.heights_are q n ∙ sym (round-height s peers w.sized q);
  firm = λ q n c. subst (λ x. 0 < x) (sym (round-height s peers w.sized q)) (w.firm q n c);
}
  where
    below : (r : ℕ) → r ≤ suc s.top → (r ≡ suc s.top → ⊥) → r ≤ s.top
    below r h n = omega arith

-- ---- a name

-- the point x is one of j's author and round
abbrev is_version : Id → Point → Bool
is_version j x = x.named && (eqb x.id.round j.round && eqb x.id.author j.author)

version_is : (s : Store) (j : Id) (x : ℕ) → version s j x ≡ is_version j (s.pt x)
unfolding version
version_is s j x = refl

module _ (s : Store) (w : Wf s) (i : Id) (q : ℕ) (there : q < s.places) (unused : (s.pt q).named ≡ false) (low : s.bottom ≤ i.round) (high : i.round ≤ s.top) (new : any s.places (same_digest s i) ≡ false) where
  -- the place named
  pub name_at_lem : (name_at s i q).pt q ≡ new_point i
  unfolding name_at with_points
  name_at_lem = rw (eq-eqb q q refl) refl

  -- all others
  pub name_off : (p : ℕ) → p ≢ q → (name_at s i q).pt p ≡ s.pt p
  unfolding name_at with_points
  name_off p n = rw (ne_eqb p q n) refl

  -- no point before has the new point's round and digest
  fresh : (x : ℕ) → (s.pt x).named ≡ true → round_at s x ≡ i.round → (id_at s x).digest ≡ i.digest → ⊥
  unfolding same_digest
  fresh x n e d = any_none s.places (same_digest s i) new x (inside s w.sized x n) (both n (both (eq-eqb _ _ e) (eq-eqb _ _ d)))

  -- a named point stands elsewhere
  other : (x : ℕ) → (s.pt x).named ≡ true → x ≢ q
  other x n e = clash n (subst (λ y. (s.pt y).named ≡ false) (sym e) unused)

  -- the new point has no links
  no_source : (x : ℕ) → LinkedTo (name_at s i q) q x → ⊥
  unfolding new_point resolved
  no_source x e = false≢true (subst (λ y. resolved y ≡ true) name_at_lem (linked _ _ e).resolved_is)

  -- and no old link leads to it
  no_target : (p : ℕ) → links_to (s.pt p) (new_point i) ≡ true → ⊥
  unfolding new_point
  no_target p e = go (w.leads p l.resolved_is l.by l.among (omega (arith, l.round)))
    where
      l : Linked (s.pt p) (new_point i)
      l = linked _ _ e

      go : Leads s (round_at s p) l.by → ⊥
      go (x, n, f) = let (a, b, c) = fits_elim (round_at s p) (id_at s x) l.by f in fresh x n (omega (arith, l.round)) (c ∙ sym l.digest_is)

  -- so each link is one from before, and leads elsewhere
  pub name-link : (p x : ℕ) → LinkedTo (name_at s i q) p x → LinkedTo s p x × (x ≢ q)
  name-link p x e = (subst (λ y. links_to (s.pt p) y ≡ true) (name_off x m) f, m)
    where
      n : p ≢ q
      n d = no_source x (subst (λ y. LinkedTo (name_at s i q) y x) d e)

      f : links_to (s.pt p) ((name_at s i q).pt x) ≡ true
      f = subst (λ y. links_to y ((name_at s i q).pt x) ≡ true) (name_off p n) e

      m : x ≢ q
      m d = no_target p (subst (λ y. links_to (s.pt p) y ≡ true) (ap (name_at s i q).pt d ∙ name_at_lem) f)

  -- and each link from before is there
  pub link-name : (p x : ℕ) → LinkedTo s p x → LinkedTo (name_at s i q) p x
  link-name p x e =
      subst (λ y. links_to y ((name_at s i q).pt x) ≡ true) (sym (name_off p (other p (source_named s p x e))))
      (subst (λ y. links_to (s.pt p) y ≡ true) (sym (name_off x (other x (linked _ _ e).named_is))) e)

  name_sized : Sized (name_at s i q)
  name_sized p l = subst (λ (x : Point). x.named ≡ false) (sym (name_off p (λ e. past p l e))) (w.sized p (bound p l))
    where
      bound : (p : ℕ) → (name_at s i q).places ≤ p → s.places ≤ p
      bound p l = unfold name_at with_points in l

      past : (p : ℕ) → (name_at s i q).places ≤ p → p ≢ q
      past p l e = omega (arith, bound p l)

  name_top : (t : ℕ) → Top (name_at s i q) t → Top s t × (t ≢ q)
  unfolding new_point
  name_top t h = (subst (λ (x : Point). (x.named && x.flags.top) ≡ true) (name_off t n) h, n)
    where
      n : t ≢ q
      n e = false≢true (subst (λ (x : Point). (x.named && x.flags.top) ≡ true) (ap (name_at s i q).pt e ∙ name_at_lem) h)

  top_name : (t : ℕ) → Top s t → Top (name_at s i q) t
  top_name t h = subst (λ (x : Point). (x.named && x.flags.top) ≡ true) (sym (name_off t (other t (and_l _ (s.pt t).flags.top h)))) h

  name_is : (p : ℕ) → IsHeight (LinkedTo (name_at s i q)) (round_at (name_at s i q)) (Top (name_at s i q)) s.conf.history_rounds p (height (name_at s i q) p)
  name_is p = unfold name_at with_points in height_is (name_at s i q) name_sized p

  -- no height changes ..
  pub name-height : (p : ℕ) → p ≢ q → height (name_at s i q) p ≡ height s p
  name-height p n = height_unique (name_is p) (record {
    bound = λ t to v. let (k, m) = name_top t to in subst (λ x. x ≤ height s p) (sym (same t m)) ((height_is s w.sized p).bound t k (carry (λ a b e. (name-link a b e).0) v));
    met = ⊎_elim inl (λ (t, to, v, e). inr (t, top_name t to, carry link-name v, e ∙ sym (same t (other t (and_l _ (s.pt t).flags.top to))))) (height_is s w.sized p).met;
  })
    where
      same : (t : ℕ) → t ≢ q → height_from s.conf.history_rounds (round_at (name_at s i q)) t p ≡ height_from s.conf.history_rounds (round_at s) t p
      same t m = ap₂ (λ (x y : Point). suc s.conf.history_rounds - (x.id.round - y.id.round)) (name_off t m) (name_off p n)

  -- .. and the new point has none
  pub name_flat : height (name_at s i q) q ≡ 0
  name_flat = go (name_is q).met
    where
      go : (height (name_at s i q) q ≡ 0) ⊎ ((t : ℕ) × Top (name_at s i q) t × Path (LinkedTo (name_at s i q)) t q × (height (name_at s i q) q ≡ height_from s.conf.history_rounds (round_at (name_at s i q)) t q)) → height (name_at s i q) q ≡ 0
      go (inl e) = e
      go (inr (t, to, v, e)) = ⊎_elim (λ d. absurd ((name_top t to).1 d)) (λ (r, u, l). absurd ((name-link r q l).1 refl)) (last_link v)

  name-version : (j : Id) (x : ℕ) → x ≢ q → version (name_at s i q) j x ≡ version s j x
  name-version j x n = version_is (name_at s i q) j x ∙ (ap (is_version j) (name_off x n) ∙ sym (version_is s j x))

  -- one version more ..
  name-one : (j : Id) → versions (name_at s i q) j ≤ suc (versions s j)
  unfolding name_at with_points
  name-one j = those-one s.places (version s j) (version (name_at s i q) j) q (λ x l n t. sym (name-version j x n) ∙ t)

  -- .. of i's author and round alone
  name-none : (j : Id) → (eqb i.round j.round && eqb i.author j.author) ≡ false → versions (name_at s i q) j ≤ versions s j
  unfolding name_at with_points new_point
  name-none j f = those_fewer s.places (version s j) (version (name_at s i q) j) (λ x l t. same_or x q (λ e. absurd (clash (at x e t) f)) (λ n. sym (name-version j x n) ∙ t))
    where
      at : (x : ℕ) → x ≡ q → version (name_at s i q) j x ≡ true → (eqb i.round j.round && eqb i.author j.author) ≡ true
      at x e t = and_r true _ (ap (is_version j) (sym (ap (name_at s i q).pt e ∙ name_at_lem)) ∙ (sym (version_is (name_at s i q) j x) ∙ t))

  name-four : versions s i < 4 → (j : Id) → versions s j ≤ 4 → versions (name_at s i q) j ≤ 4
  name-four v j h =
      by_test (eqb i.round j.round && eqb i.author j.author)
      (λ t. omega (arith, name-one j, same (eqb-true _ _ (and_l _ _ t)) (eqb-true _ _ (and_r (eqb i.round j.round) _ t))))
      (λ f. omega (arith, name-none j f))
    where
      same : i.round ≡ j.round → i.author ≡ j.author → versions s j ≤ versions s i
      same a b = those_fewer s.places (version s i) (version s j) (λ x l t. version_is s i x ∙ (ap₂ (λ c d. (s.pt x).named && (eqb (round_at s x) c && eqb (id_at s x).author d)) a b ∙ (sym (version_is s j x) ∙ t)))

  -- what holds of the new point and of each other one, holds of all
  each : (P : ℕ → Point → Type 0) → P q (new_point i) → ((p : ℕ) → p ≢ q → P p (s.pt p)) → (p : ℕ) → P p ((name_at s i q).pt p)
  each P a f p =
      same_or p q
      (λ e. subst (λ x. P x ((name_at s i q).pt x)) (sym e) (subst (P q) (sym name_at_lem) a))
      (λ n. subst (P p) (sym (name_off p n)) (f p n))

  lead_name : (r : ℕ) (l : Link) → Leads s r l → Leads (name_at s i q) r l
  lead_name r l (x, n, f) = let e = sym (name_off x (other x n)) in (x, subst (λ (y : Point). y.named ≡ true) e n, subst (λ (y : Point). fits r y.id l ≡ true) e f)

  name_apart : (p x : ℕ) → ((name_at s i q).pt p).named ≡ true → ((name_at s i q).pt x).named ≡ true → round_at (name_at s i q) p ≡ round_at (name_at s i q) x → (id_at (name_at s i q) p).digest ≡ (id_at (name_at s i q) x).digest → p ≡ x
  unfolding new_point
  name_apart = each
      (λ p y. (x : ℕ) → y.named ≡ true → ((name_at s i q).pt x).named ≡ true → y.id.round ≡ round_at (name_at s i q) x → y.id.digest ≡ (id_at (name_at s i q) x).digest → p ≡ x)
      (each (λ x y. true ≡ true → y.named ≡ true → i.round ≡ y.id.round → i.digest ≡ y.id.digest → q ≡ x)
      (λ a b c d. refl)
      (λ x n a b c d. absurd (fresh x b (sym c) (sym d))))
      (λ p n. each (λ x y. (s.pt p).named ≡ true → y.named ≡ true → round_at s p ≡ y.id.round → (id_at s p).digest ≡ y.id.digest → p ≡ x)
      (λ a b c d. absurd (fresh p a c d))
      (λ x m. w.apart p x))

  name_heights_are : (p : ℕ) → ((name_at s i q).pt p).named ≡ true → (name_at s i q).heights p ≡ height (name_at s i q) p
  name_heights_are p h =
      same_or p q
      (λ e. at e ∙ sym (ap (height (name_at s i q)) e ∙ name_flat))
      (λ n. off n ∙ (w.heights_are p (subst (λ (y : Point). y.named ≡ true) (name_off p n) h) ∙ sym (name-height p n)))
    where
      at : p ≡ q → (name_at s i q).heights p ≡ 0
      at e = unfold name_at with_points in rw (eq-eqb p q e) refl

      off : p ≢ q → (name_at s i q).heights p ≡ s.heights p
      off n = unfold name_at with_points in rw (ne_eqb p q n) refl

  -- a name keeps the rules
  pub name_kept : is_peer s i ≡ true → versions s i < 4 → Wf (name_at s i q)
  unfolding new_point
  name_kept a b = record {
    sized = name_sized;
    begun = unfold name_at with_points in w.begun;
    places_ok = unfold name_at with_points in w.places_ok;
    conf_ok = unfold name_at with_points in w.conf_ok;
    low = unfold name_at with_points in w.low;
    rounds_ok = unfold name_at with_points in w.rounds_ok;
    high = unfold name_at with_points in w.high;
    few = unfold name_at with_points in w.few;
    used_ok = unfold name_at with_points in w.used_ok;
    kept = unfold name_at with_points in each (λ p y. y.named ≡ true → (s.bottom ≤ y.id.round) × (y.id.round ≤ s.top)) (λ n. (low, high)) (λ p m. w.kept p);
    peer = unfold name_at with_points is_peer in each (λ p y. y.named ≡ true → is_peer s y.id ≡ true) (λ n. a) (λ p m. w.peer p);
    apart = name_apart;
    four = each (λ p y. y.named ≡ true → versions (name_at s i q) y.id ≤ 4) (λ n. name-four b i (omega arith)) (λ p m n. name-four b (id_at s p) (w.four p n));
    formed = each (λ p y. resolved y ≡ true → well_formed y.id.round y.resolution ≡ true) (λ n. absurd (unfold resolved in false≢true n)) (λ p m. w.formed p);
    leads = each (λ p y. resolved y ≡ true → (l : Link) → Memᴰ l (links y) → (name_at s i q).bottom + l.dist ≤ y.id.round → Leads (name_at s i q) y.id.round l)
        (λ n. absurd (unfold resolved in false≢true n))
        (λ p m n l k h. lead_name (round_at s p) l (w.leads p n l k (unfold name_at with_points in h)));
    heights_are = name_heights_are;
    firm = each (λ p y. y.named ≡ true → y.flags.committed ≡ true → 0 < height (name_at s i q) p) (λ n c. absurd (false≢true c)) (λ p m n c. subst (λ x. 0 < x) (sym (name-height p m)) (w.firm p n c));
  }

-- ---- a resolution

-- a resolution keeps the rules
pub res_kept : (s : Store) → Wf s → (q : ℕ) (t : Resolution) → (s.pt q).named ≡ true → resolved (s.pt q) ≡ false → well_formed (round_at s q) t ≡ true → has (dangling s (round_at s q)) (links (resolved_as true t (s.pt q))) ≡ false → Wf (resolve_at s t q)
unfolding resolve_at with_path_heights with_points resolved_as is_peer version
res_kept s w q t there late form tamed = record {
  sized = w.sized;
  begun = w.begun;
  places_ok = w.places_ok;
  conf_ok = w.conf_ok;
  low = w.low;
  rounds_ok = w.rounds_ok;
  high = w.high;
  few = w.few;
  used_ok = w.used_ok;
  kept = w.kept;
  peer = w.peer;
  apart = w.apart;
  four = w.four;
  formed = λ p. formed p (eqb p q) refl;
  leads = λ p. leads p (eqb p q) refl;
  heights_are = λ p n. settled_height (with_points s (λ x. resolved_as (eqb x q) t (s.pt x)) s.heights) w.sized p;
  firm = λ p n c. let r : height s p ≤ height (resolve_at s t q) p = rises p in omega (arith, w.firm p n c);
}
  where
    formed : (p : ℕ) (b : Bool) → eqb p q ≡ b → resolved (resolved_as b t (s.pt p)) ≡ true → well_formed (round_at s p) (resolved_as b t (s.pt p)).resolution ≡ true
    formed p true e n = subst (λ x. well_formed (round_at s x) t ≡ true) (sym (eqb-true p q e)) form
    formed p false e n = w.formed p n

    leads : (p : ℕ) (b : Bool) → eqb p q ≡ b → resolved (resolved_as b t (s.pt p)) ≡ true → (l : Link) → Memᴰ l (links (resolved_as b t (s.pt p))) → s.bottom + l.dist ≤ round_at s p → Leads s (round_at s p) l
    leads p true e n l m h = subst (λ x. Leads s (round_at s x) l) (sym d) (tame s (round_at s q) (links (resolved_as true t (s.pt q))) tamed l m (subst (λ x. s.bottom + l.dist ≤ round_at s x) d h))
      where
        d : p ≡ q
        d = eqb-true p q e
    leads p false e n l m h = w.leads p n l m h

    rises : (p : ℕ) → height s p ≤ height (resolve_at s t q) p
    rises p = height-rises {top = Top s} {top' = Top s} (link_res s w.sized q t late) (λ x h. h) (height_is s w.sized p) (height_is (resolve_at s t q) w.sized p)

-- ---- a certificate

-- a certificate keeps the rules
pub cert_kept : (s : Store) → Wf s → (q : ℕ) → (s.pt q).named ≡ true → Wf (certify_at s q)
unfolding certify_at with_path_heights with_points set_top is_peer version resolved links_to
cert_kept s w q there = record {
  sized = w.sized;
  begun = w.begun;
  places_ok = w.places_ok;
  conf_ok = w.conf_ok;
  low = w.low;
  rounds_ok = w.rounds_ok;
  high = w.high;
  few = w.few;
  used_ok = w.used_ok;
  kept = w.kept;
  peer = w.peer;
  apart = w.apart;
  four = w.four;
  formed = w.formed;
  leads = w.leads;
  heights_are = λ p n. settled_height (with_points s (λ x. set_top (eqb x q) (s.pt x)) s.heights) w.sized p;
  firm = λ p n c. let r : height s p ≤ height (certify_at s q) p = rises p in omega (arith, w.firm p n c);
}
  where
    top : (x : ℕ) → Top s x → Top (certify_at s q) x
    top x h = both {a = (s.pt x).named} {b = eqb x q || (s.pt x).flags.top} (and_l _ (s.pt x).flags.top h) (or_r (eqb x q) _ (and_r (s.pt x).named _ h))

    rises : (p : ℕ) → height s p ≤ height (certify_at s q) p
    rises p = height-rises {top = Top s} {top' = Top (certify_at s q)} (λ x y e. e) top (height_is s w.sized p) (height_is (certify_at s q) w.sized p)

-- ---- drained rounds

module _ (s : Store) (w : Wf s) (b : ℕ) (from : s.bottom ≤ b) (to : b ≤ s.top) where
  -- what holds of each point that stays, holds of each named one after
  staying : (P : Point → Type 0) (q : ℕ) → ((drained s b).pt q).named ≡ true → ((s.pt q).named ≡ true → b ≤ round_at s q → P (s.pt q)) → P ((drained s b).pt q)
  staying P q n f = let (e, l) = drain_was s b q n in subst P (sym e) (f (subst (λ (x : Point). x.named ≡ true) e n) l)

  drain-round : (r : ℕ) → b ≤ r → (drained s b).rounds r ≡ s.rounds r
  unfolding drained
  drain-round r l = rw (le-ltb r b l) refl

  drain-peer : (i : Id) → b ≤ i.round → is_peer s i ≡ true → is_peer (drained s b) i ≡ true
  unfolding is_peer
  drain-peer i l h = rw (drain-round i.round l) h

  drain-four : (i : Id) → versions s i ≤ 4 → versions (drained s b) i ≤ 4
  unfolding drained
  drain-four i h = le_trans (those_fewer s.places (version s i) (version (drained s b) i) (λ x l t. was x (sym (version_is (drained s b) i x) ∙ t))) h
    where
      was : (x : ℕ) → is_version i ((drained s b).pt x) ≡ true → version s i x ≡ true
      was x t = version_is s i x ∙ subst (λ y. is_version i y ≡ true) (drain_was s b x (and_l _ (eqb ((drained s b).pt x).id.round i.round && eqb ((drained s b).pt x).id.author i.author) t)).0 t

  lead_drain : (r : ℕ) (l : Link) → b + l.dist ≤ r → Leads s r l → Leads (drained s b) r l
  lead_drain r l h (x, n, f) = (x, subst (λ (y : Point). y.named ≡ true) e n, subst (λ (y : Point). fits r y.id l ≡ true) e f)
    where
      e : s.pt x ≡ (drained s b).pt x
      e = sym (drain-stays s b x (omega (arith, (fits_elim r (id_at s x) l f).0)))

  drain_heights_are : (q : ℕ) → b ≤ round_at s q → (drained s b).heights q ≡ s.heights q
  unfolding drained
  drain_heights_are q l = rw (le-ltb (round_at s q) b l) refl

  -- a drain keeps the rules
  pub drain_kept : Wf (drained s b)
  drain_kept = record {
    sized = drain_sized s b w.sized;
    begun = unfold drained in w.begun;
    places_ok = unfold drained in w.places_ok;
    conf_ok = unfold drained in w.conf_ok;
    low = unfold drained in omega (arith, w.low);
    rounds_ok = unfold drained in to;
    high = unfold drained in w.high;
    few = unfold drained in omega (arith, w.few);
    used_ok = λ r l h. subst (λ (x : Round). used_ok x.used ≡ true) (sym (drain-round r (unfold drained in l))) (w.used_ok r (unfold drained in omega arith) (unfold drained in h));
    kept = λ q n. unfold drained in staying (λ x. (b ≤ x.id.round) × (x.id.round ≤ s.top)) q n (λ m l. (l, (w.kept q m).1));
    peer = λ q n. staying (λ x. is_peer (drained s b) x.id ≡ true) q n (λ m l. drain-peer (id_at s q) l (w.peer q m));
    apart = λ p q n m. staying (λ x. x.id.round ≡ round_at (drained s b) q → x.id.digest ≡ (id_at (drained s b) q).digest → p ≡ q) p n (λ n' l.
        staying (λ x. round_at s p ≡ x.id.round → (id_at s p).digest ≡ x.id.digest → p ≡ q) q m (λ m' k. w.apart p q n' m'));
    four = λ q n. staying (λ x. versions (drained s b) x.id ≤ 4) q n (λ m l. drain-four (id_at s q) (w.four q m));
    formed = λ q n. staying (λ x. resolved x ≡ true → well_formed x.id.round x.resolution ≡ true) q (resolved-named _ n) (λ m l. w.formed q) n;
    leads = λ q n. staying (λ x. resolved x ≡ true → (l : Link) → Memᴰ l (links x) → (drained s b).bottom + l.dist ≤ x.id.round → Leads (drained s b) x.id.round l) q (resolved-named _ n)
        (λ m k d l j h. lead_drain (round_at s q) l (unfold drained in h) (w.leads q d l j (unfold drained in omega arith))) n;
    heights_are = λ q n. let (e, l) = drain_was s b q n in drain_heights_are q l ∙ (w.heights_are q (subst (λ (x : Point). x.named ≡ true) e n) ∙ sym (drain-height s b w.sized q l));
    firm = λ q n. staying (λ x. x.flags.committed ≡ true → 0 < height (drained s b) q) q n (λ m l c. subst (λ x. 0 < x) (sym (drain-height s b w.sized q l)) (w.firm q m c));
  }

-- ---- a commit

-- an anchor's marks keep the rules
pub mark_kept : (s : Store) → Wf s → (e : EnqueuedAnchor) → Anchored s e → Tested s e.anchor → Wf (dequeued s e)
unfolding dequeued set_committed use_proof is_peer version resolved used_ok
mark_kept s w e a c = record {
  sized = w.sized;
  begun = w.begun;
  places_ok = w.places_ok;
  conf_ok = w.conf_ok;
  low = w.low;
  rounds_ok = w.rounds_ok;
  high = w.high;
  few = w.few;
  used_ok = λ r l h. by_test (eqb r (round_at s e.proof)) (λ t. rw t (and_l _ _ (w.peer e.anchor (resolved-named (s.pt e.anchor) a.anchor_done)))) (λ f. rw f (w.used_ok r l h));
  kept = w.kept;
  peer = λ q n. by_test (eqb (round_at s q) (round_at s e.proof)) (λ t. rw t (w.peer q n)) (λ f. rw f (w.peer q n));
  apart = w.apart;
  four = w.four;
  formed = w.formed;
  leads = w.leads;
  heights_are = λ q n. w.heights_are q n ∙ sym (mark-height s w.sized e q);
  firm = λ q n d. subst (λ x. 0 < x) (sym (mark-height s w.sized e q)) (⊎_elim (λ h. c.heights_are q (inside s w.sized q n) h) (w.firm q n) (or_cases (in_history s e.anchor q) _ d));
}

-- and the anchors still to come
pub rising_mark : (s : Store) (e : EnqueuedAnchor) (b : ℕ) (es : List EnqueuedAnchor) → Rising s b es → Rising (dequeued s e) b es
unfolding dequeued set_committed resolved
rising_mark s e b [] r = tt
rising_mark s e b (x ∷ xs) (l, a, r) = (
  l,
  record { anchor_done = a.anchor_done; anchor_valid = a.anchor_valid; proof_done = a.proof_done; proof_valid = a.proof_valid; above = a.above },
  rising_mark s e _ xs r,
)

-- a commit's anchors keep the rules
pub commit_kept : (s : Store) (ls b : List ℕ) (at n : ℕ) (es : List EnqueuedAnchor) → Wf s → Rising s s.bottom es → Wf (commit_all s ls b at n es).store
unfolding commit_all
commit_kept s ls b at n [] w r = w
commit_kept s ls b at n (e ∷ es) w (l, a, r) = go (test_anchor s ls (length b - at) (length (record_bytes s ls e)) e.anchor) refl (commit_kept (dequeued s e) _ _ _ _ es)
  where
    go : (o : Out ℕ) → test_anchor s ls (length b - at) (length (record_bytes s ls e)) e.anchor ≡ o
        → (Wf (dequeued s e) → Rising (dequeued s e) (dequeued s e).bottom es → Wf (commit_all (dequeued s e) (after_lists s e.anchor ls) (written b at (record_bytes s ls e)) (at + length (record_bytes s ls e)) (suc n) es).store)
        → Wf (elim o as (λ x. Finished) [ bad r ↦ record { store = s; buffer = b; anchors = n; stopped = some r } | good a ↦ commit_all (dequeued s e) (after_lists s e.anchor ls) (written b at (record_bytes s ls e)) (at + length (record_bytes s ls e)) (suc n) es ]).store
    go (bad y) t f = w
    go (good y) t f = f (mark_kept s w e a (test_good s ls _ _ e.anchor y t).0) (rising_mark s e (dequeued s e).bottom es (rising_less s (dequeued s e).bottom (suc (round_at s e.anchor)) es (unfold dequeued in omega arith) r))

-- ---- the anchors of a trigger

good_is : {A : Type 0} (x y : A) → good x ≡ good y → x ≡ y
good_is x y e = cc

chain_rising : (s : Store) (t : ℕ) (o : Option ℕ) (es : List EnqueuedAnchor) → chain_from s t o ≡ good es → Rising s (lowest_walked s) es
unfolding chain_from check_oldest
chain_rising s t none es h = absurd (not_good (number 16) es h)
chain_rising s t (some d) es h =
    let low = lowest_walked s in
    let (l, e, f) = then-good (walk s low (prev (round_at s t) - low) (record { round = prev (round_at s t); author = (id_at s t).author; digest = d }) []) (check_oldest low) es h in
    subst (Rising s low) (good_is l es (refuse-good _ 19 _ es f).1) (walk_rising s low _ _ [] l tt e)

filtered_rising : (s : Store) (t : ℕ) (es : List EnqueuedAnchor) → filtered s t ≡ good es → Rising s (lowest_walked s) es
unfolding filtered chain
filtered_rising s t es h = go (if_good (eqb (status_at s t) 1) (chain s t) _ es (refuse-good _ 9 _ es h).1)
  where
    low : ℕ
    low = lowest_walked s

    ends : good [] ≡ good es → Rising s low es
    ends e = subst (Rising s low) (good_is [] es e) tt

    from : (((not (s.pt t).resolution.trigger || (eqb (round_at s t) s.conf.genesis || empty_walk s t)) ≡ true) × (good [] ≡ good es)) ⊎ (((not (s.pt t).resolution.trigger || (eqb (round_at s t) s.conf.genesis || empty_walk s t)) ≡ false) × (chain_from s t (previous (s.pt t)) ≡ good es)) → Rising s low es
    from (inl (b, e)) = ends e
    from (inr (b, e)) = chain_rising s t (previous (s.pt t)) es e

    away : ((trigger_conflict s t ≡ true) × (bad (conflict (round_at s t)) ≡ good es)) ⊎ ((trigger_conflict s t ≡ false) × (refuse (not (certified s t)) 15 (good []) ≡ good es)) → Rising s low es
    away (inl (b, e)) = absurd (not_good _ es e)
    away (inr (b, e)) = ends (refuse-good _ 15 _ es e).1

    go : ((eqb (status_at s t) 1 ≡ true) × (chain s t ≡ good es)) ⊎ ((eqb (status_at s t) 1 ≡ false) × (◌≡◌ {A = Out (List EnqueuedAnchor)} (elim (trigger_conflict s t) [ true ↦ bad (conflict (round_at s t)) | false ↦ refuse (not (certified s t)) 15 (good []) ]) (good es))) → Rising s low es
    go (inl (b, e)) = from (if_good (not (s.pt t).resolution.trigger || (eqb (round_at s t) s.conf.genesis || empty_walk s t)) (good []) (chain_from s t (previous (s.pt t))) es e)
    go (inr (b, e)) = away (if_good (trigger_conflict s t) (bad (conflict (round_at s t))) (refuse (not (certified s t)) 15 (good [])) es e)

-- the anchors that a trigger yields rise
pub anchors_rising : (s : Store) → Wf s → (i : Id) (es : List EnqueuedAnchor) → anchors_of s i ≡ good es → Rising s (lowest_walked s) es
unfolding anchors_of
anchors_rising s w i es h = go (if_good (ltb i.round s.bottom) (good []) _ es (refuse-good _ 5 _ es h).1)
  where
    none_rise : good [] ≡ good es → Rising s (lowest_walked s) es
    none_rise e = subst (Rising s (lowest_walked s)) (good_is [] es e) tt

    go : ((ltb i.round s.bottom ≡ true) × (good [] ≡ good es)) ⊎ ((ltb i.round s.bottom ≡ false) × (refuse (ltb s.top i.round) 6 (refuse (not (is_peer s i)) 5 (then (place_of s i) (filtered s))) ≡ good es)) → Rising s (lowest_walked s) es
    go (inl (t, e)) = none_rise e
    go (inr (f, e)) = let (q, k, m) = then-good (place_of s i) (filtered s) es (refuse-good _ 5 _ es (refuse-good _ 6 _ es e).1).1 in filtered_rising s q es m

-- ---- a start

-- a start that isn't refused keeps them
pub begun_kept : (n : ℕ) (m : Memory) (b : StartArgs) → start_ok n b ≡ true → Wf (begun n m b)
unfolding start_ok begun is_started
begun_kept n m b h = record {
  sized = λ q l. refl;
  begun = refl;
  places_ok = search (and_l, and_r, h);
  conf_ok = and_l _ _ h;
  low = leb-true _ _ (search (and_l, and_r, h));
  rounds_ok = omega arith;
  high = leb-true _ _ (search (and_l, and_r, h));
  few = omega arith;
  used_ok = λ r l k. rw (eq-eqb r b.bottom (omega arith)) (search (and_l, and_r, h));
  kept = λ q k. absurd (false≢true k);
  peer = λ q k. absurd (false≢true k);
  apart = λ p q k. absurd (false≢true k);
  four = λ q k. absurd (false≢true k);
  formed = λ q k. absurd (false≢true (resolved-named _ k));
  leads = λ q k. absurd (false≢true (resolved-named _ k));
  heights_are = λ q k. absurd (false≢true k);
  firm = λ q k. absurd (false≢true k);
}

-- ---- refusals other than 2

abbrev Two : Refusal → Type 0
Two r = number_of r ≢ 2

two : (n : ℕ) → n ≢ 2 → Two (number n)
unfolding number_of
two n h = h

fine : (n : ℕ) → is_other n ≡ true → Two (number n)
fine n o = two n (other_is n o).0

fine_conflict : (r : ℕ) → Two (conflict r)
unfolding number_of
fine_conflict r = omega arith

-- ---- the calls that change points and rounds

round-ends : (s : Store) → Wf s → (r peers : ℕ) → Ends Two Wf (do_round s r peers)
unfolding do_round
round-ends s w r peers = refuse-ends Two Wf _ 3 _ (two 3 (omega arith)) (λ e. if_ends Two Wf (leb r s.top) (good s) _ (λ t. w) (λ f. refuse-ends Two Wf _ 4 _ (two 4 (omega arith)) (λ g. round_kept s w peers (fits_in e f) (leb-false _ _ g))))
  where
    fits_in : (ltb (suc s.top) r || ltb last_round r) ≡ false → leb r s.top ≡ false → suc s.top ≤ last_round
    fits_in e f = omega (arith, leb-false r s.top f, ltb-false last_round r (or_none (ltb (suc s.top) r) (ltb last_round r) e).1)

id-ends : {A : Type 0} (P : A → Type 0) (s : Store) (i : Id) (o : Out A) → (s.bottom ≤ i.round → i.round ≤ s.top → is_peer s i ≡ true → Ends Two P o) → Ends Two P (at_id s i o)
unfolding at_id
id-ends P s i o f = refuse-ends Two P _ 5 _ (two 5 (omega arith)) (λ a. refuse-ends Two P _ 6 _ (two 6 (omega arith)) (λ b. refuse-ends Two P _ 5 _ (two 5 (omega arith)) (λ c.
    f (leb-true _ _ (and_l _ _ (not-false _ b))) (leb-true _ _ (and_r (leb s.bottom i.round) _ (not-false _ b))) (not-false _ c))))

name-ends : (s : Store) → Wf s → (i : Id) → Ends Two Wf (do_name s i)
unfolding do_name into_free number_of
name-ends s w i = id-ends Wf s i _ (λ a b c. refuse-ends Two Wf _ 7 _ (two 7 (omega arith)) (λ d. refuse-ends Two Wf _ 8 _ (two 8 (omega arith)) (λ e. go a b c d (leb-false _ _ e) (lowest s.places (λ q. not (s.pt q).named)) refl)))
  where
    go : s.bottom ≤ i.round → i.round ≤ s.top → is_peer s i ≡ true → any s.places (same_digest s i) ≡ false → versions s i < 4
        → (o : Option ℕ) → lowest s.places (λ q. not (s.pt q).named) ≡ o → Ends Two Wf (into_free s i o)
    go a b c d e none k = two 4 (omega arith)
    go a b c d e (some q) k = let (l, t) = lowest-some s.places (λ q. not (s.pt q).named) q k in name_kept s w i q l (not-true _ t) a b d c e

resolve-ends : (s : Store) → Wf s → (i : Id) (t : Resolution) → Ends Two Wf (do_resolve s i t)
unfolding do_resolve resolving
resolve-ends s w i t = id-ends Wf s i _ (λ a b c. then-ends Two (λ q. (s.pt q).named ≡ true) Wf (place_of s i) (resolving s t) (place-ends Two fine fine_conflict s i) (λ q n.
    refuse-ends Two Wf _ 10 _ (two 10 (omega arith)) (λ d. refuse-ends Two Wf _ 11 _ (two 11 (omega arith)) (λ e. refuse-ends Two Wf _ 12 _ (two 12 (omega arith)) (λ f. res_kept s w q t n d (not-false _ e) f)))))

certify-ends : (s : Store) → Wf s → (i : Id) → Ends Two Wf (do_certify s i)
unfolding do_certify
certify-ends s w i = id-ends Wf s i _ (λ a b c. then-ends Two (λ q. (s.pt q).named ≡ true) Wf (place_of s i) (λ q. good (certify_at s q)) (place-ends Two fine fine_conflict s i) (λ q n. cert_kept s w q n))

-- what stopped a commit is of the kind F
abbrev pub FineStop : (Refusal → Type 0) → Option Refusal → Type 0
FineStop F none = Unit {0}
FineStop F (some r) = F r

-- a kind that holds all numbers but 2 and 25
module _ (F : Refusal → Type 0) (fine : (n : ℕ) → is_other n ≡ true → F (number n)) (fine_conflict : (r : ℕ) → F (conflict r)) (gap : F (number 20)) (lists : F (number 24)) where
  test_sound : (s : Store) (ls : List ℕ) (left size a : ℕ) → Sound F (test_anchor s ls left size a)
  unfolding test_anchor
  test_sound s ls left size a =
      then_sound F (tested s a) _ (tested_sound F fine fine_conflict s a) (λ x. refuse_sound F (gap_pending s.progress.gap) 20 _ gap
      (refuse_sound F (not (lists_ok (linked_counts s a) ls)) 24 _ lists (refuse_sound F (ltb left size) 21 (good a) (fine 21 refl) tt)))

  pub commit_sound : (s : Store) (ls b : List ℕ) (at n : ℕ) (es : List EnqueuedAnchor) → FineStop F (commit_all s ls b at n es).stopped
  unfolding commit_all
  commit_sound s ls b at n [] = tt
  commit_sound s ls b at n (e ∷ es) = go (test_anchor s ls (length b - at) (length (record_bytes s ls e)) e.anchor) (test_sound s ls _ _ e.anchor) (commit_sound (dequeued s e) _ _ _ _ es)
    where
      go : (o : Out ℕ) → Sound F o → FineStop F (commit_all (dequeued s e) (after_lists s e.anchor ls) (written b at (record_bytes s ls e)) (at + length (record_bytes s ls e)) (suc n) es).stopped
          → FineStop F (elim o as (λ x. Finished) [ bad r ↦ record { store = s; buffer = b; anchors = n; stopped = some r } | good a ↦ commit_all (dequeued s e) (after_lists s e.anchor ls) (written b at (record_bytes s ls e)) (at + length (record_bytes s ls e)) (suc n) es ]).stopped
      go (bad y) h f = h
      go (good y) h f = f

removing_sound : (s : Store) (r : ℕ) (b bytes : List ℕ) → Sound Two (removing s r b bytes)
unfolding removing
removing_sound s r b bytes = refuse_sound Two (beyond s.progress.last_anchor r) 23 _ (two 23 (omega arith)) (refuse_sound Two (ltb (length b) (length bytes)) 21 (good bytes) (two 21 (omega arith)) tt)

-- ---- whole calls

-- a reset
unfoldable pub is_reset_call : Call → Bool
is_reset_call c = elim c [ start b ↦ false | reset_all ↦ true | round r peers ↦ false | name i ↦ false | resolve i t ↦ false | certify i ↦ false | gap_question ↦ false | commit i l b ↦ false | outlook i b ↦ false | remove r from b ↦ false | drop r ↦ false ]

pub not_reset : (P : Call → Type 0) → (P reset_all → ⊥) → (c : Call) → P c → is_reset_call c ≡ false
unfolding is_reset_call
not_reset P f (start b) h = refl
not_reset P f reset_all h = absurd (f h)
not_reset P f (round r peers) h = refl
not_reset P f (name i) h = refl
not_reset P f (resolve i t) h = refl
not_reset P f (certify i) h = refl
not_reset P f gap_question h = refl
not_reset P f (commit i ls b) h = refl
not_reset P f (outlook i b) h = refl
not_reset P f (remove r from b) h = refl
not_reset P f (drop r) h = refl

-- not refused with 2
abbrev NotTwo : Answer → Type 0
NotTwo a = (n : ℕ) → a ≢ refused (number 2) n

fine_answer : (r : Refusal) (k : ℕ) → Two r → NotTwo (refused r k)
fine_answer r k f n e = f (ap number_of (is e) ∙ two)
  where
    is : refused r k ≡ refused (number 2) n → r ≡ number 2
    is e = cc

    two : number_of (number 2) ≡ 2
    two = unfold number_of in refl

done-answer : NotTwo done
done-answer n e = let o : ◌≡◌ {A = ℕ} 0 1 = cc in omega arith

said_answer : (b : Bool) → NotTwo (flag b)
said_answer b n e = let o : ◌≡◌ {A = ℕ} 0 1 = cc in omega arith

handed-answer : (k : ℕ) → NotTwo (anchors k)
handed-answer k n e = let o : ◌≡◌ {A = ℕ} 0 1 = cc in omega arith

-- what a call other than start and reset leaves
record Goes (o : Outcome) : Type 0 where
  pub rules : Wf o.store
  pub answered : NotTwo o.answer

finish-goes : (s : Store) → Wf s → (o : Out Store) → Ends Two Wf o → Goes (finish s o)
unfolding finish
finish-goes s w (bad r) h = record { rules = w; answered = fine_answer r 0 h }
finish-goes s w (good t) h = record { rules = h; answered = done-answer }

gap_question-goes : (s : Store) → Wf s → Goes (do_gap_question s)
unfolding do_gap_question
gap_question-goes s w = go (gap_pending s.progress.gap)
  where
    go : (b : Bool) → Goes (elim b [ true ↦ without_buffer (with_gap s (some true)) (flag true) | false ↦ without_buffer s (flag false) ])
    go true = record { rules = numbers_kept s _ _ w; answered = said_answer true }
    go false = record { rules = w; answered = said_answer false }

end_goes : (s : Store) (b : List ℕ) (k : ℕ) (o : Option Refusal) → Wf s → FineStop Two o → Goes (commit_end (record { store = s; buffer = b; anchors = k; stopped = o }))
unfolding commit_end
end_goes s b k none w f = record { rules = w; answered = handed-answer k }
end_goes s b k (some r) w f = record { rules = w; answered = fine_answer r k f }

commit-goes : (s : Store) → Wf s → (i : Id) (ls b : List ℕ) → Goes (do_commit s i ls b)
unfolding do_commit
commit-goes s w i ls b = go (anchors_of s i) refl (anchors_sound Two fine fine_conflict (two 25 (omega arith)) s i)
  where
    go : (o : Out (List EnqueuedAnchor)) → anchors_of s i ≡ o → Sound Two o → Goes (elim o [ bad r ↦ record { answer = refused r 0; store = s; buffer = b } | good es ↦ commit_end (commit_all s ls b 0 0 es) ])
    go (bad r) e h = record { rules = w; answered = fine_answer r 0 h }
    go (good es) e h = end_goes _ _ _ _ (commit_kept s ls b 0 0 es w (rising_less s s.bottom (lowest_walked s) es (omega arith) (anchors_rising s w i es e))) (commit_sound Two fine fine_conflict (two 20 (omega arith)) (two 24 (omega arith)) s ls b 0 0 es)

outlook-goes : (s : Store) → Wf s → (i : Id) (b : List ℕ) → Goes (do_outlook s i b)
unfolding do_outlook
outlook-goes s w i b = go (anchors_of s i) (anchors_sound Two fine fine_conflict (two 25 (omega arith)) s i)
  where
    shown : (es : List EnqueuedAnchor) (o : Out (List ℕ)) → Sound Two o → Goes (elim o [ bad r ↦ record { answer = refused r 0; store = s; buffer = b } | good bytes ↦ record { answer = anchors (length es); store = s; buffer = written b 0 bytes } ])
    shown es (bad r) h = record { rules = w; answered = fine_answer r 0 h }
    shown es (good bytes) h = record { rules = w; answered = handed-answer (length es) }

    go : (o : Out (List EnqueuedAnchor)) → Sound Two o → Goes (elim o [ bad r ↦ record { answer = refused r 0; store = s; buffer = b } | good es ↦ elim (outlook_all s (length b) es) [ bad r ↦ record { answer = refused r 0; store = s; buffer = b } | good bytes ↦ record { answer = anchors (length es); store = s; buffer = written b 0 bytes } ] ])
    go (bad r) h = record { rules = w; answered = fine_answer r 0 h }
    go (good es) h = shown es (outlook_all s (length b) es) (outlook_sound Two fine fine_conflict s (length b) es)

-- the new bottom is a retained round
pub new_bottom_lem : (s : Store) → Wf s → (r : ℕ) → (s.bottom ≤ new_bottom s r) × (new_bottom s r ≤ s.top)
unfolding new_bottom
new_bottom_lem s w r = (omega arith, omega (arith, w.rounds_ok))

remove-goes : (s : Store) → Wf s → (r : ℕ) (from : Option ℕ) (b : List ℕ) → Goes (do_remove s r from b)
unfolding do_remove
remove-goes s w r from b = go (removing s r b (remove_bytes s low from)) (removing_sound s r b (remove_bytes s low from))
  where
    low : ℕ
    low = new_bottom s (r - s.conf.history_rounds)

    go : (o : Out (List ℕ)) → Sound Two o → Goes (elim o [ bad n ↦ record { answer = refused n 0; store = s; buffer = b } | good bytes ↦ record { answer = done; store = with_memory (drained s low) (memory_after s s.memory (inspected s low)); buffer = written b 0 bytes } ])
    go (bad n) h = record { rules = w; answered = fine_answer n 0 h }
    go (good bytes) h = let (l, m) = new_bottom_lem s w (r - s.conf.history_rounds) in record { rules = numbers_kept (drained s low) _ _ (drain_kept s w low l m); answered = done-answer }

drop-goes : (s : Store) → Wf s → (r : ℕ) → Goes (do_drop s r)
unfolding do_drop
drop-goes s w r = let (l, m) = new_bottom_lem s w r in record { rules = numbers_kept (drained s (new_bottom s r)) _ _ (drain_kept s w (new_bottom s r) l m); answered = said_answer _ }

perform-goes : (s : Store) → Wf s → (c : Call) → is_start c ≡ false → is_reset_call c ≡ false → Goes (perform s c)
unfolding perform is_start is_reset_call
perform-goes s w (start b) h k = absurd (true≢false h)
perform-goes s w reset_all h k = absurd (true≢false k)
perform-goes s w (round r peers) h k = finish-goes s w (do_round s r peers) (round-ends s w r peers)
perform-goes s w (name i) h k = finish-goes s w (do_name s i) (name-ends s w i)
perform-goes s w (resolve i t) h k = finish-goes s w (do_resolve s i t) (resolve-ends s w i t)
perform-goes s w (certify i) h k = finish-goes s w (do_certify s i) (certify-ends s w i)
perform-goes s w gap_question h k = gap_question-goes s w
perform-goes s w (commit i ls b) h k = commit-goes s w i ls b
perform-goes s w (outlook i b) h k = outlook-goes s w i b
perform-goes s w (remove r from b) h k = remove-goes s w r from b
perform-goes s w (drop r) h k = drop-goes s w r

-- a start of tables that count as started changes nothing
pub start-same : (s : Store) → Wf s → (b : StartArgs) → (do_start s b).store ≡ s
unfolding do_start finish refuse
start-same s w b = rw (counts_as_started_intro s w.sized w) (go (not (start_ok s.places b)))
  where
    go : (a : Bool) → (finish s (refuse a 1 (refuse true 2 (good (begun s.places (memory_kept s) b))))).store ≡ s
    go true = refl
    go false = refl

-- every call but a reset keeps the rules
pub perform_kept : (s : Store) → Wf s → (c : Call) → is_reset_call c ≡ false → Wf (perform s c).store
unfolding perform is_start is_reset_call
perform_kept s w (start b) h = subst Wf (sym (start-same s w b)) w
perform_kept s w reset_all h = absurd (true≢false h)
perform_kept s w (round r peers) h = (perform-goes s w (round r peers) refl refl).rules
perform_kept s w (name i) h = (perform-goes s w (name i) refl refl).rules
perform_kept s w (resolve i t) h = (perform-goes s w (resolve i t) refl refl).rules
perform_kept s w (certify i) h = (perform-goes s w (certify i) refl refl).rules
perform_kept s w gap_question h = (perform-goes s w gap_question refl refl).rules
perform_kept s w (commit i ls b) h = (perform-goes s w (commit i ls b) refl refl).rules
perform_kept s w (outlook i b) h = (perform-goes s w (outlook i b) refl refl).rules
perform_kept s w (remove r from b) h = (perform-goes s w (remove r from b) refl refl).rules
perform_kept s w (drop r) h = (perform-goes s w (drop r) refl refl).rules

-- tables that count as started are acted on
pub call-perform : (s : Store) → Wf s → (c : Call) → call s c ≡ perform s c
unfolding call
call-perform s w c = rw (counts_as_started_intro s w.sized w, call) refl

-- tables that count as started do so after every call but a reset
pub rules_kept : (s : Store) → Sized s → counts_as_started s ≡ true → (c : Call) → is_reset_call c ≡ false → Sized (call s c).store × (counts_as_started (call s c).store ≡ true)
rules_kept s z h c r = (k.sized, counts_as_started_intro (call s c).store k.sized k)
  where
    w : Wf s
    w = counts_as_started_elim s z h

    k : Wf (call s c).store
    k = subst (λ (o : Outcome). Wf o.store) (sym (call-perform s w c)) (perform_kept s w c r)

-- ---- start and reset

-- a call without a buffer that is done
pub finish-done : (s : Store) (o : Out Store) → (finish s o).answer ≡ done → (t : Store) × (o ≡ good t) × ((finish s o).store ≡ t)
unfolding finish
finish-done s (bad r) h = absurd (let o : ◌≡◌ {A = ℕ} 0 1 = cc in omega arith)
finish-done s (good t) h = (t, refl, refl)

-- a start is for all tables
pub call-start : (s : Store) (b : StartArgs) → call s (start b) ≡ do_start s b
unfolding call is_start perform
call-start s b = rw (or_r (counts_as_started s) true refl, call) refl

-- what a start that isn't refused leaves
pub start-begun : (s : Store) (b : StartArgs) → (call s (start b)).answer ≡ done → (start_ok s.places b ≡ true) × ((call s (start b)).store ≡ begun s.places (memory_kept s) b)
unfolding do_start
start-begun s b h = go (finish-done s _ (rw (call-start s b) at h))
  where
    o : Out Store
    o = refuse (not (start_ok s.places b)) 1 (refuse (counts_as_started s) 2 (good (begun s.places (memory_kept s) b)))

    go : (t : Store) × (o ≡ good t) × ((finish s o).store ≡ t) → (start_ok s.places b ≡ true) × ((call s (start b)).store ≡ begun s.places (memory_kept s) b)
    go (t, e, f) =
        let (a, g) = refuse-good (not (start_ok s.places b)) 1 _ t e in
        let (c, k) = refuse-good (counts_as_started s) 2 _ t g in
        (not-false _ a, ap (λ (x : Outcome). x.store) (call-start s b) ∙ (f ∙ sym (good_is _ t k)))

-- it keeps the rules
pub start-counts : (s : Store) (b : StartArgs) → (call s (start b)).answer ≡ done → Wf (call s (start b)).store
start-counts s b h = let (k, e) = start-begun s b h in subst Wf (sym e) (begun_kept s.places (memory_kept s) b k)

-- after a reset the tables don't count as started
pub reset-none : (s : Store) → counts_as_started s ≡ true → counts_as_started (call s reset_all).store ≡ false
unfolding call perform cleared counts_as_started is_started
reset-none s h = rw (h, call) refl

-- ---- 2

-- in a list no call after the start says 2 but a start
pub never_2 : (s : Store) → Sized s → counts_as_started s ≡ true → (c : Call) → is_start c ≡ false → is_reset_call c ≡ false → (n : ℕ) → (call s c).answer ≢ refused (number 2) n
never_2 s z h c a b n e = (perform-goes s w c a b).answered n (ap (λ (o : Outcome). o.answer) (sym (call-perform s w c)) ∙ e)
  where
    w : Wf s
    w = counts_as_started_elim s z h
