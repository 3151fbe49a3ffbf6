-- What the calls do to heights (01: cert.rs): a certificate and a resolution raise them along paths, drains and commit marks change none.
use Rattle.std.specs.Prelude.{ℕ, suc, ◌-◌, ◌≤◌, ◌<◌, max, ◌≡◌, ◌⊎◌, ◌≢◌, Bool, true, false, not, ◌&&◌, ◌||◌, leb, ltb}
use Rattle.std.proofs.Math.Path.{refl, sym, subst}
use Rattle.std.proofs.Common.{◌∙◌, ap, ⊎_elim, eqb-true, eq-eqb, ne_eqb, ltb-true, lt-ltb, le-ltb, le-leb, arith}
use Rattle.std.proofs.Math.Logic.{inl, inr}
use Rattle.std.proofs.Math.Option.{some}
use Rattle.std.proofs.Math.Dec.{eqb}
use Rattle.std.proofs.lemmas.Bool.{lt-leb}
use Rattle.std.proofs.Math.Decide.{ℕ_discrete}
use Rattle.laws.specs.Test.{by_test, clash, both, and_l, and_r, le_or-lt}
use Rattle.laws.specs.Peers.{member}
use Rattle.spec.specs.Ids.{Id}
use Rattle.spec.specs.Store.{Resolution, Point, Store, free, links_to, resolved, round_at, find, with_points}
use Rattle.spec.specs.Paths.{Path, here, step, LinkedTo, Top, height_from, IsHeight, height}
use Rattle.spec.specs.Rules.{is_peer}
use Rattle.spec.specs.Chain.{EnqueuedAnchor, Out, good, then, place_of}
use Rattle.spec.specs.History.{dequeued, set_committed}
use Rattle.spec.specs.Calls.{done, without_buffer, finish, at_id, with_path_heights, set_top, certify_at, do_certify, resolved_as, resolve_at, drained, certify, perform, call}
use Rattle.spec.specs.Graph.{append, carry, path_down}
use Rattle.spec.specs.Heights.{height_unique}
use Rattle.spec.specs.Links.{linked, down, source_named}
use Rattle.spec.specs.HeightEquations.{Sized, height_is}
use Rattle.spec.specs.WellFormed.{Wf, counts_as_started_intro}
use Rattle.spec.specs.Walk.{refuse_back, find-some, place_at_lem}

le-max_l : (m n : ℕ) {a : ℕ} → a ≤ m → a ≤ max m n
le-max_l m n l = omega arith

le-max_r : (m n : ℕ) {a : ℕ} → a ≤ n → a ≤ max m n
le-max_r m n l = omega arith

max_l : (m n : ℕ) → n ≤ m → max m n ≡ m
max_l m n l = omega arith

max_r : (m n : ℕ) → m < n → max m n ≡ n
max_r m n l = omega arith

-- what a top of round t gives at round r, by way of a point of round j
fall : (h g t j r : ℕ) → r ≤ j → j ≤ t → suc h - (t - j) ≤ g → suc h - (t - r) ≤ g - (j - r)
fall h g t j r a b c = omega arith

exact : (h g t j r : ℕ) → r ≤ j → j ≤ t → g ≡ suc h - (t - j) → g - (j - r) ≡ suc h - (t - r)
exact h g t j r a b c = omega arith

no_share : (g d m : ℕ) → g ≡ 0 → m < g - d → ⊥
no_share g d m e l = omega arith

-- ---- a certificate

module _ (s : Store) (z : Sized s) (i : ℕ) (there : (s.pt i).named ≡ true) where
  abbrev H : ℕ
  H = s.conf.history_rounds

  cert_top : (t : ℕ) → Top (certify_at s i) t → Top s t ⊎ (t ≡ i)
  unfolding certify_at with_path_heights with_points set_top
  cert_top t h = go (ℕ_discrete t i)
    where
      go : Dec (t ≡ i) → Top s t ⊎ (t ≡ i)
      go (yes e) = inr e
      go (no e) = inl (subst (λ b. ((s.pt t).named && (b || (s.pt t).flags.top)) ≡ true) (ne_eqb t i e) h)

  top_cert : (t : ℕ) → Top s t ⊎ (t ≡ i) → Top (certify_at s i) t
  unfolding certify_at with_path_heights with_points set_top
  top_cert t (inl h) = both {a = (s.pt t).named} {b = eqb t i || (s.pt t).flags.top} (and_l _ (s.pt t).flags.top h) (by_test (eqb t i) (λ y. rw y refl) (λ n. rw n (and_r (s.pt t).named _ h)))
  top_cert t (inr e) = both {a = (s.pt t).named} {b = eqb t i || (s.pt t).flags.top} (subst (λ x. (s.pt x).named ≡ true) (sym e) there) (rw (eq-eqb t i e) refl)

  cert_is : (p : ℕ) → IsHeight (LinkedTo s) (round_at s) (Top (certify_at s i)) H p (height (certify_at s i) p)
  unfolding certify_at with_path_heights with_points set_top links_to resolved
  cert_is p = height_is (certify_at s i) z p

  -- a certificate of i raises what a path from i reaches to what i gives ..
  pub certify_on : (q : ℕ) → Path (LinkedTo s) i q → height (certify_at s i) q ≡ max (height s q) (height_from H (round_at s) i q)
  certify_on q w = height_unique (cert_is q) (record { bound = bound; met = met (le_or-lt (height s q) (height_from H (round_at s) i q)) })
    where
      bound : (t : ℕ) → Top (certify_at s i) t → Path (LinkedTo s) t q → height_from H (round_at s) t q ≤ max (height s q) (height_from H (round_at s) i q)
      bound t to v = ⊎_elim (λ k. omega (arith, (height_is s z q).bound t k v)) (λ e. rw e (omega arith)) (cert_top t to)

      met : (height s q ≤ height_from H (round_at s) i q) ⊎ (height_from H (round_at s) i q < height s q)
          → (max (height s q) (height_from H (round_at s) i q) ≡ 0) ⊎ ((t : ℕ) × Top (certify_at s i) t × Path (LinkedTo s) t q × (max (height s q) (height_from H (round_at s) i q) ≡ height_from H (round_at s) t q))
      met (inl l) = inr (i, top_cert i (inr refl), w, omega arith)
      met (inr l) = ⊎_elim (λ e. absurd (omega arith)) (λ (t, to, v, e). inr (t, top_cert t (inl to), v, omega arith)) (height_is s z q).met

  -- .. and no other point
  pub certify_off : (q : ℕ) → (Path (LinkedTo s) i q → ⊥) → height (certify_at s i) q ≡ height s q
  certify_off q n = height_unique (cert_is q) (record { bound = bound; met = met })
    where
      bound : (t : ℕ) → Top (certify_at s i) t → Path (LinkedTo s) t q → height_from H (round_at s) t q ≤ height s q
      bound t to v = ⊎_elim (λ k. (height_is s z q).bound t k v) (λ e. absurd (n (subst (λ x. Path (LinkedTo s) x q) e v))) (cert_top t to)

      met : (height s q ≡ 0) ⊎ ((t : ℕ) × Top (certify_at s i) t × Path (LinkedTo s) t q × (height s q ≡ height_from H (round_at s) t q))
      met = ⊎_elim inl (λ (t, to, v, e). inr (t, top_cert t (inl to), v, e)) (height_is s z q).met

  -- a certificate of a top changes no height
  again-height : Top s i → (q : ℕ) → height (certify_at s i) q ≡ height s q
  again-height to q = height_unique (cert_is q) (record {
    bound = λ t k v. ⊎_elim (λ m. (height_is s z q).bound t m v) (λ e. (height_is s z q).bound t (subst (Top s) (sym e) to) v) (cert_top t k);
    met = ⊎_elim inl (λ (t, m, v, e). inr (t, top_cert t (inl m), v, e)) (height_is s z q).met;
  })

-- ---- a resolution

module _ (s : Store) (z : Sized s) (i : ℕ) (resolution : Resolution) (late : resolved (s.pt i) ≡ false) where
  abbrev s' : Store
  s' = resolve_at s resolution i

  pub res_off : (p : ℕ) → p ≢ i → s'.pt p ≡ s.pt p
  unfolding resolve_at with_path_heights with_points resolved_as
  res_off p n = rw (ne_eqb p i n) refl

  res_round : (p : ℕ) → round_at s' p ≡ round_at s p
  unfolding resolve_at with_path_heights with_points resolved_as
  res_round p = refl

  pub res_target : (x : Point) (q : ℕ) → links_to x (s'.pt q) ≡ links_to x (s.pt q)
  unfolding links_to resolve_at with_path_heights with_points resolved_as
  res_target x q = refl

  -- only links of i are new
  pub res_link : (p q : ℕ) → LinkedTo s' p q → LinkedTo s p q ⊎ (p ≡ i)
  res_link p q e = go (ℕ_discrete p i)
    where
      go : Dec (p ≡ i) → LinkedTo s p q ⊎ (p ≡ i)
      go (yes m) = inr m
      go (no m) = inl (sym (res_target (s.pt p) q) ∙ subst (λ x. links_to x (s'.pt q) ≡ true) (res_off p m) e)

  pub link_res : (p q : ℕ) → LinkedTo s p q → LinkedTo s' p q
  link_res p q e = subst (λ x. links_to x (s'.pt q) ≡ true) (sym (res_off p n)) (res_target (s.pt p) q ∙ e)
    where
      n : p ≢ i
      n m = clash (linked _ _ e).resolved_is (subst (λ x. resolved (s.pt x) ≡ false) (sym m) late)

  -- a path after the resolution is one from before, or goes through i
  through : (t q : ℕ) → Path (LinkedTo s') t q → Path (LinkedTo s) t q ⊎ (Path (LinkedTo s) t i × Path (LinkedTo s') i q)
  through t q here = inl here
  through t q (step {q = x} e w) = go (res_link t x e) (through x q w)
    where
      go : LinkedTo s t x ⊎ (t ≡ i) → Path (LinkedTo s) x q ⊎ (Path (LinkedTo s) x i × Path (LinkedTo s') i q) → Path (LinkedTo s) t q ⊎ (Path (LinkedTo s) t i × Path (LinkedTo s') i q)
      go (inr m) r = inr (subst (Path (LinkedTo s) t) m here, subst (λ y. Path (LinkedTo s') y q) m (step e w))
      go (inl k) (inl v) = inl (step k v)
      go (inl k) (inr (a, b)) = inr (step k a, b)

  res_is : (p : ℕ) → IsHeight (LinkedTo s') (round_at s) (Top s) s.conf.history_rounds p (height s' p)
  unfolding resolve_at with_path_heights with_points resolved_as
  res_is p = height_is (resolve_at s resolution i) z p

  res_low : (q : ℕ) → Path (LinkedTo s') i q → round_at s q ≤ round_at s i
  res_low q w = subst (λ x. x ≤ round_at s i) (res_round q) (subst (λ x. round_at s' q ≤ x) (res_round i) (path_down (down s') w))

  -- what i hands on to q
  abbrev share : ℕ → ℕ
  share q = height s i - (round_at s i - round_at s q)

  -- what a path from i reaches gets the height of i less the rounds between, if that is more ..
  pub resolve_on : (q : ℕ) → Path (LinkedTo s') i q → height s' q ≡ max (height s q) (share q)
  resolve_on q w = height_unique (res_is q) (record { bound = bound; met = met (le_or-lt (share q) (height s q)) })
    where
      bound : (t : ℕ) → Top s t → Path (LinkedTo s') t q → height_from s.conf.history_rounds (round_at s) t q ≤ max (height s q) (share q)
      bound t to v = go (through t q v)
        where
          go : Path (LinkedTo s) t q ⊎ (Path (LinkedTo s) t i × Path (LinkedTo s') i q) → height_from s.conf.history_rounds (round_at s) t q ≤ max (height s q) (share q)
          go (inl u) = le-max_l (height s q) (share q) ((height_is s z q).bound t to u)
          go (inr (a, b)) = le-max_r (height s q) (share q) (fall s.conf.history_rounds (height s i) (round_at s t) (round_at s i) (round_at s q) (res_low q w) (path_down (down s) a) ((height_is s z i).bound t to a))

      met : (share q ≤ height s q) ⊎ (height s q < share q) → (max (height s q) (share q) ≡ 0) ⊎ ((t : ℕ) × Top s t × Path (LinkedTo s') t q × (max (height s q) (share q) ≡ height_from s.conf.history_rounds (round_at s) t q))
      met (inl l) = ⊎_elim (λ e. inl (max_l (height s q) (share q) l ∙ e)) (λ (t, to, v, e). inr (t, to, carry link_res v, max_l (height s q) (share q) l ∙ e)) (height_is s z q).met
      met (inr l) = ⊎_elim (λ e. absurd (no_share (height s i) (round_at s i - round_at s q) (height s q) e l)) (λ (t, to, v, e). inr (t, to, append (carry link_res v) w, max_r (height s q) (share q) l ∙ exact s.conf.history_rounds (height s i) (round_at s t) (round_at s i) (round_at s q) (res_low q w) (path_down (down s) v) e)) (height_is s z i).met

  -- .. and no other point changes
  pub resolve_off : (q : ℕ) → (Path (LinkedTo s') i q → ⊥) → height s' q ≡ height s q
  resolve_off q n = height_unique (res_is q) (record {
    bound = λ t to v. ⊎_elim (λ u. (height_is s z q).bound t to u) (λ (a, b). absurd (n b)) (through t q v);
    met = ⊎_elim inl (λ (t, to, v, e). inr (t, to, carry link_res v, e)) (height_is s z q).met;
  })

-- ---- drained rounds

module _ (s : Store) (b : ℕ) where
  pub drain-gone : (q : ℕ) → round_at s q < b → (drained s b).pt q ≡ free
  unfolding drained
  drain-gone q h = rw (lt-ltb _ _ h) refl

  pub drain-stays : (q : ℕ) → b ≤ round_at s q → (drained s b).pt q ≡ s.pt q
  unfolding drained
  drain-stays q h = rw (le-ltb _ _ h) refl

  -- what is named after was named before, and stands as it did
  pub drain_was : (q : ℕ) → ((drained s b).pt q).named ≡ true → ((drained s b).pt q ≡ s.pt q) × (b ≤ round_at s q)
  drain_was q h = ⊎_elim (λ l. (drain-stays q l, l)) (λ l. absurd (clash h (ap (λ (p : Point). p.named) (drain-gone q l)))) (le_or-lt b (round_at s q))

  pub drain-link : (p q : ℕ) → LinkedTo (drained s b) p q → LinkedTo s p q
  drain-link p q e = subst (λ x. links_to x (s.pt q) ≡ true) (drain_was p (source_named (drained s b) p q e)).0 (subst (λ x. links_to ((drained s b).pt p) x ≡ true) (drain_was q (linked _ _ e).named_is).0 e)

  pub link-drain : (p q : ℕ) → b ≤ round_at s q → LinkedTo s p q → LinkedTo (drained s b) p q
  link-drain p q l e = subst (λ x. links_to x ((drained s b).pt q) ≡ true) (sym (drain-stays p (omega (arith, down s p q e)))) (subst (λ x. links_to (s.pt p) x ≡ true) (sym (drain-stays q l)) e)

  path_drain : (p q : ℕ) → b ≤ round_at s q → Path (LinkedTo s) p q → Path (LinkedTo (drained s b)) p q
  path_drain p q l here = here
  path_drain p q l (step {q = x} e w) = step {q = x} (link-drain p x (omega (arith, path_down (down s) w)) e) (path_drain x q l w)

  -- a top after was one before, of the same round
  drain_top : (t : ℕ) → Top (drained s b) t → Top s t × (round_at (drained s b) t ≡ round_at s t)
  drain_top t h = (subst (λ (x : Point). (x.named && x.flags.top) ≡ true) e h, ap (λ (x : Point). x.id.round) e)
    where
      e : (drained s b).pt t ≡ s.pt t
      e = (drain_was t (and_l _ ((drained s b).pt t).flags.top h)).0

  top_drain : (t : ℕ) → b ≤ round_at s t → Top s t → Top (drained s b) t
  top_drain t l h = subst (λ (x : Point). (x.named && x.flags.top) ≡ true) (sym (drain-stays t l)) h

  pub drain_sized : Sized s → Sized (drained s b)
  unfolding drained
  drain_sized z q l = by_test (ltb (round_at s q) b) (λ t. rw t refl) (λ f. rw f (z q l))

  drain_is : Sized s → (p : ℕ) → IsHeight (LinkedTo (drained s b)) (round_at (drained s b)) (Top (drained s b)) s.conf.history_rounds p (height (drained s b) p)
  unfolding drained
  drain_is z p = height_is (drained s b) (drain_sized z) p

  -- "drains change no retained height"
  pub drain-height : Sized s → (p : ℕ) → b ≤ round_at s p → height (drained s b) p ≡ height s p
  drain-height z p l = height_unique (drain_is z p) (record {
    bound = λ t to v. subst (λ n. n ≤ height s p) (sym (same t (drain_top t to).1)) ((height_is s z p).bound t (drain_top t to).0 (carry drain-link v));
    met = ⊎_elim inl (λ (t, to, v, e). let k = at t v in inr (t, top_drain t k to, path_drain t p l v, e ∙ sym (same t (ap (λ (x : Point). x.id.round) (drain-stays t k))))) (height_is s z p).met;
  })
    where
      same : (t : ℕ) → round_at (drained s b) t ≡ round_at s t → height_from s.conf.history_rounds (round_at (drained s b)) t p ≡ height_from s.conf.history_rounds (round_at s) t p
      same t e = rw (e, ap (λ (x : Point). x.id.round) (drain-stays p l)) refl

      at : (t : ℕ) → Path (LinkedTo s) t p → b ≤ round_at s t
      at t v = omega (arith, path_down (down s) v)

-- ---- commit marks

mark_is : (s : Store) → Sized s → (e : EnqueuedAnchor) (p : ℕ) → IsHeight (LinkedTo s) (round_at s) (Top s) s.conf.history_rounds p (height (dequeued s e) p)
unfolding dequeued set_committed links_to resolved
mark_is s z e p = height_is (dequeued s e) z p

-- "commit marks change no height"
pub mark-height : (s : Store) → Sized s → (e : EnqueuedAnchor) (p : ℕ) → height (dequeued s e) p ≡ height s p
mark-height s z e p = height_unique (mark_is s z e p) (height_is s z p)

-- ---- what a change of points stores

-- a certificate and a resolution store the heights of their paths
settle_is : (s : Store) → Sized s → (p : ℕ) → IsHeight (LinkedTo s) (round_at s) (Top s) s.conf.history_rounds p (height (with_path_heights s) p)
unfolding with_path_heights with_points
settle_is s z p = height_is (with_path_heights s) z p

pub settled_height : (s : Store) → Sized s → (p : ℕ) → (with_path_heights s).heights p ≡ height (with_path_heights s) p
unfolding with_path_heights with_points
settled_height s z p = height_unique (height_is s z p) (settle_is s z p)

-- ---- a second certificate

-- the top bit set where it stands
set-again : (b : Bool) (x : Point) → (b ≡ true → x.flags.top ≡ true) → set_top b x ≡ x
unfolding set_top
set-again false x h = refl
set-again true x h = λ j. record {
  named = x.named;
  id = x.id;
  resolution = x.resolution;
  flags = record { top = sym (h refl) j; started = x.flags.started; completed = x.flags.completed; committed = x.flags.committed };
}

-- a path from a named point ends at one
path_named : (s : Store) (t q : ℕ) → Path (LinkedTo s) t q → (s.pt t).named ≡ true → (s.pt q).named ≡ true
path_named s t q here n = n
path_named s t q (step {q = x} e w) n = path_named s x q w (linked _ _ e).named_is

-- no path leads to a free place
free-height : (s : Store) → Sized s → (q : ℕ) → (s.pt q).named ≡ false → height s q ≡ 0
free-height s z q f = ⊎_elim (λ e. e) (λ (t, to, v, e). absurd (clash (path_named s t q v (and_l _ (s.pt t).flags.top to)) f)) (height_is s z q).met

-- free places hold the height 0, as in every store that tables are read as
abbrev pub FreeAtZero : Store → Type 0
FreeAtZero s = (q : ℕ) → (s.pt q).named ≡ false → s.heights q ≡ 0

module _ (s : Store) (w : Wf s) (f : FreeAtZero s) (i : ℕ) (to : Top s i) where
  again-point : (p : ℕ) → (certify_at s i).pt p ≡ s.pt p
  unfolding certify_at with_path_heights with_points
  again-point p = set-again (eqb p i) (s.pt p) (λ e. subst (λ x. (s.pt x).flags.top ≡ true) (sym (eqb-true p i e)) (and_r (s.pt i).named _ to))

  -- the points with their certificate
  abbrev marked : Store
  marked = with_points s (λ p. set_top (eqb p i) (s.pt p)) s.heights

  marked_sized : Sized marked
  unfolding with_points set_top
  marked_sized = w.sized

  again-stored : (p : ℕ) → (certify_at s i).heights p ≡ s.heights p
  unfolding certify_at
  again-stored p =
      settled_height marked marked_sized p ∙ again-height s w.sized i (and_l _ (s.pt i).flags.top to) to p
      ∙ by_test (s.pt p).named (λ n. sym (w.heights_are p n)) (λ n. free-height s w.sized p n ∙ sym (f p n))

  -- "A second certificate changes nothing.": the store after it is the store before it
  pub certify-again : certify_at s i ≡ s
  unfolding certify_at with_path_heights with_points
  certify-again = λ j. record {
    phase = s.phase;
    places = s.places;
    pt = λ p. again-point p j;
    heights = λ p. again-stored p j;
    bottom = s.bottom;
    top = s.top;
    rounds = s.rounds;
    conf = s.conf;
    progress = s.progress;
    memory = s.memory;
  }

-- an id that passes 5, 6, 5
at_good : {A : Type 0} (s : Store) (i : Id) (o : Out A) → s.bottom ≤ i.round → i.round ≤ s.top → is_peer s i ≡ true → at_id s i o ≡ o
unfolding at_id is_peer
at_good s i o l h p =
    refuse_back (leb 32 i.author) 5 _ (lt-leb 32 i.author (ltb-true i.author 32 (and_l _ (member (s.rounds i.round).peers i.author) p))) ∙ refuse_back _ 6 _ (ap not (both (le-leb _ _ l) (le-leb _ _ h))) ∙ refuse_back _ 5 o (ap not p)

-- so of the call: it answers done and leaves the store as it was
pub certify-call-again : (s : Store) → Wf s → FreeAtZero s → (i : Id) (q : ℕ) → find s i ≡ some q → Top s q → call s (certify i) ≡ without_buffer s done
unfolding call perform finish do_certify
certify-call-again s w f i q e to =
    let k = find-some s i q e in
    let (l, h) = w.kept q k.named in
    let placed : place_of s i ≡ good q = place_at_lem s i ∙ rw e refl in
    let at : do_certify s i ≡ good s = at_good s i _ (subst (λ (x : Id). s.bottom ≤ x.round) k.is l) (subst (λ (x : Id). x.round ≤ s.top) k.is h) (subst (λ (x : Id). is_peer s x ≡ true) k.is (w.peer q k.named)) ∙ ap (λ o. then o (λ q. good (certify_at s q))) placed ∙ ap good (certify-again s w f q to) in
    rw (counts_as_started_intro s w.sized w, call) (ap (finish s) at)
