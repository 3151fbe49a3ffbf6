-- How long events are: at most 308,160 bytes a round of each kind, so that offsets stay small.
use Prim.Native.Nat.{ℕ, ◌+◌, ◌*◌, ◌-◌, ◌≤◌}
use Rattle.std.specs.Prelude.{◌≡◌, refl, Bool, true, false, ltb}
use Rattle.std.proofs.Common.{sym, ap, ap₂, subst, ◌∙◌, arith}
use mathlib.Core.List.{List, [], ◌∷◌, ◌++◌, map, append-nil}
use Rattle.std.proofs.Math.Dec.{eqb}
use Rattle.std.proofs.Math.ListN.{length, length-append, length-map}
use Rattle.laws.specs.Lists.{joined, joined-append, keep, keep-length, count-keep, up_to}
use Rattle.laws.specs.Bytes.{be, be-length}
use Rattle.spec.specs.Ids.{Id, id_bytes}
use Rattle.spec.specs.Records.{id-length, ids-length}
use Rattle.spec.specs.Store.{Entry, Store, id_at}
use Rattle.spec.specs.WellFormed.{Wf}
use Rattle.spec.specs.Inspect.{of, places_in, is_trans_invalid, is_invalid, is_ill_formed, is_found, is_trusted, reported, proofs, authored_then, authored_now, not_referenced, ids_of, InspectedRound, shown, Event, single, equivocation, no_inclusion, only_if, singles, equivocations, no_inclusions, over, events, event_bytes}
use Rattle.spec.specs.Inspection.{first_shown, inspected_round, before-keeps, passing-few, data_few}
use Rattle.inspector_events.specs.Passing.{upto_bytes, upto_few}
use Rattle.inspector_faults.specs.Refines.{over-rounds}

-- at most c bytes of at most k things
pub record Short {A : Type 0} (enc : A → List ℕ) (c k : ℕ) (xs : List A) : Type 0 where
  pub bytes : length (joined enc xs) ≤ c
  pub few : length xs ≤ k

-- things of c bytes each
images_length : {A B : Type 0} (enc : B → List ℕ) (c : ℕ) (f : A → B) → ((a : A) → length (enc (f a)) ≡ c) → (l : List A) → length (joined enc (map f l)) ≡ length l * c
unfolding joined
images_length enc c f h [] = omega arith
images_length enc c f h (x ∷ xs) =
    let r = images_length enc c f h xs in
    let a = h x in
    omega (arith, r, a, length-append (enc (f x)) (joined enc (map f xs)))

-- digests
digests-length : (ds : List ℕ) → length (joined (be 32) ds) ≡ length ds * 32
unfolding joined
digests-length [] = refl
digests-length (d ∷ ds) =
    let r = digests-length ds in
    omega (arith, r, be-length 32 d, length-append (be 32 d) (joined (be 32) ds))

-- events of each form
single-length : (kind : ℕ) (i : Id) → length (event_bytes (single kind i)) ≡ 38
unfolding event_bytes
single-length kind i = length-append (be 1 kind) (id_bytes i) ∙ ap₂ ◌+◌ (be-length 1 kind) (id-length i)

fork_length : (a r : ℕ) (ds : List ℕ) → length (event_bytes (equivocation a r ds)) ≡ 1 + (1 + (4 + (4 + length ds * 32)))
unfolding event_bytes
fork_length a r ds =
    length-append (be 1 4) _
    ∙ ap₂ ◌+◌ (be-length 1 4) (length-append (be 1 a) _
    ∙ ap₂ ◌+◌ (be-length 1 a) (length-append (be 4 r) _
    ∙ ap₂ ◌+◌ (be-length 4 r) (length-append (be 4 (length ds)) _ ∙ ap₂ ◌+◌ (be-length 4 (length ds)) (digests-length ds))))

owed_length : (a : ℕ) (xs ys : List Id) → length (event_bytes (no_inclusion a xs ys)) ≡ 1 + (1 + (4 + (length xs * 37 + (4 + length ys * 37))))
unfolding event_bytes
owed_length a xs ys =
    length-append (be 1 5) _
    ∙ ap₂ ◌+◌ (be-length 1 5) (length-append (be 1 a) _
    ∙ ap₂ ◌+◌ (be-length 1 a) (length-append (be 4 (length xs)) _
    ∙ ap₂ ◌+◌ (be-length 4 (length xs)) (length-append (joined id_bytes xs) _
    ∙ ap₂ ◌+◌ (ids-length xs) (length-append (be 4 (length ys)) _ ∙ ap₂ ◌+◌ (be-length 4 (length ys)) (ids-length ys)))))

-- one event, or none
only_short : (c : ℕ) (b : Bool) (x : Event) → length (event_bytes x) ≤ c → Short event_bytes c 1 (only_if b x)
unfolding only_if joined
only_short c true x h = record { bytes = subst (λ l. length l ≤ c) (sym (append-nil (event_bytes x))) h; few = omega arith }
only_short c false x h = record { bytes = omega arith; few = omega arith }

-- one run after another
short_then : (c d k l : ℕ) (xs ys : List Event) → Short event_bytes c k xs → Short event_bytes d l ys → Short event_bytes (c + d) (k + l) (xs ++ ys)
short_then c d k l xs ys a b = record {
  bytes = let x = a.bytes in let y = b.bytes in let e = ap length (joined-append event_bytes xs ys) ∙ length-append (joined event_bytes xs) (joined event_bytes ys) in omega (arith, x, y, e);
  few = let x = a.few in let y = b.few in omega (arith, x, y, length-append xs ys);
}

module _ (v : Store) (w : Wf v) where
  -- a peer has at most four points in a round
  four : (r : ℕ) (f : ℕ → Bool) (a : ℕ) → length (keep (of f v a) (places_in v r)) ≤ 4
  four r f a = subst (λ n. n ≤ 4) (count-keep (of f v a) (places_in v r)) (passing-few v w r f a)

  -- of one peer at a round
  singles_short : (kind : ℕ) (f : Store → ℕ → Bool) (x : InspectedRound) (a : ℕ) → Short event_bytes 152 4 (singles kind f v x a)
  unfolding singles
  singles_short kind f x a =
      let qs : List ℕ = keep (of (f v) v a) (places_in v x.round) in
      let n = four x.round (f v) a in record {
        bytes = omega (arith, n, images_length event_bytes 38 (λ q. single kind (id_at v q)) (λ q. single-length kind (id_at v q)) qs);
        few = omega (arith, n, length-map qs (λ q. single kind (id_at v q)));
      }

  forks_short : (x : InspectedRound) (a : ℕ) → Short event_bytes 138 1 (equivocations v x a)
  unfolding equivocations
  forks_short x a =
      let qs : List ℕ = keep (of (is_found v) v a) (places_in v x.round) in
      let ds : List ℕ = map (λ q. (id_at v q).digest) qs in
      only_short 138 (ltb 1 (length qs)) (equivocation a x.round ds) (omega (arith, four x.round (is_found v) a, fork_length a x.round ds, length-map qs (λ q. (id_at v q).digest)))

  owed_short : (x : InspectedRound) → length x.memory.entries ≤ 128 → (a : ℕ) → Short event_bytes 9_630 1 (no_inclusions v x a)
  unfolding no_inclusions authored_then authored_now proofs
  owed_short x l a =
      let es : List Entry = x.memory.entries in
      let r : ℕ = x.round in
      let own : List Entry = keep (λ e. eqb e.author a) es in
      let now : List ℕ = keep (of (is_trusted v) v a) (places_in v r) in
      let ps : List Entry = keep (reported es v r a) es in
      let xs : List Id = ids_of x.memory.last a (map (λ (e : Entry). e.digest) own) in
      let ys : List Id = ids_of r a (map (λ q. (id_at v q).digest) now) in
      let zs : List Id = map (λ e. record { round = x.memory.last; author = e.author; digest = e.digest }) ps in
      let a1 : length xs ≡ length own = length-map (map (λ (e : Entry). e.digest) own) (λ d. record { round = x.memory.last; author = a; digest = d }) ∙ length-map own (λ (e : Entry). e.digest) in
      let a2 : length ys ≡ length now = length-map (map (λ q. (id_at v q).digest) now) (λ d. record { round = r; author = a; digest = d }) ∙ length-map now (λ q. (id_at v q).digest) in
      let a3 : length zs ≡ length ps = length-map ps (λ e. record { round = x.memory.last; author = e.author; digest = e.digest }) in
      only_short 9_630 (not_referenced x.memory v r a) (no_inclusion a (xs ++ ys) zs)
      (omega (arith, l, a1, a2, a3, length-append xs ys, owed_length a (xs ++ ys) zs, four r (is_trusted v) a, keep-length (λ e. eqb e.author a) es, keep-length (reported es v r a) es))

  -- of all peers at a round
  pub owed_round : (x : InspectedRound) → length x.memory.entries ≤ 128 → Short event_bytes 308_160 32 (up_to 32 (no_inclusions v x))
  owed_round x l = record {
    bytes = upto_bytes event_bytes 9_630 32 (no_inclusions v x) (λ a m. (owed_short x l a).bytes);
    few = upto_few 1 32 (no_inclusions v x) (λ a m. (owed_short x l a).few);
  }

  -- and of all rounds shown
  over_short : (c k : ℕ) (f : InspectedRound → ℕ → List Event) (b : ℕ) → ((r a : ℕ) → Short event_bytes c k (f (inspected_round v r) a)) → Short event_bytes ((b - first_shown v) * (32 * c)) ((b - first_shown v) * (32 * k)) (over f (shown v b))
  over_short c k f b h =
      subst (Short event_bytes ((b - first_shown v) * (32 * c)) ((b - first_shown v) * (32 * k))) (sym (over-rounds v f b)) (record {
        bytes = upto_bytes event_bytes (32 * c) (b - first_shown v) (λ j. up_to 32 (f (inspected_round v (first_shown v + j)))) (λ j l. upto_bytes event_bytes c 32 (f (inspected_round v (first_shown v + j))) (λ a m. (h (first_shown v + j) a).bytes));
        few = upto_few (32 * k) (b - first_shown v) (λ j. up_to 32 (f (inspected_round v (first_shown v + j)))) (λ j l. upto_few k 32 (f (inspected_round v (first_shown v + j))) (λ a m. (h (first_shown v + j) a).few));
      })

  -- all events of a remove: at most 511 rounds of 327,168 bytes
  pub events_short : length v.memory.entries ≤ 128 → (b : ℕ) → b ≤ v.top → Short event_bytes 167_182_848 228_928 (events v b)
  unfolding events
  events_short l b h =
      let n : b - first_shown v ≤ 511 = omega (arith, h, w.few) in
      let k = b - first_shown v in
      let one = over_short 152 4 (singles 1 is_trans_invalid v) b (λ r a. singles_short 1 is_trans_invalid (inspected_round v r) a) in
      let two = over_short 152 4 (singles 2 is_invalid v) b (λ r a. singles_short 2 is_invalid (inspected_round v r) a) in
      let three = over_short 152 4 (singles 3 is_ill_formed v) b (λ r a. singles_short 3 is_ill_formed (inspected_round v r) a) in
      let forks = over_short 138 1 (equivocations v) b (λ r a. forks_short (inspected_round v r) a) in
      let owed = over_short 9_630 1 (no_inclusions v) b (λ r a. owed_short (inspected_round v r) (before-keeps (λ m. length m.entries ≤ 128) v r l (data_few v w)) a) in
      let all = short_then _ _ _ _ _ _ one (short_then _ _ _ _ _ _ two (short_then _ _ _ _ _ _ three (short_then _ _ _ _ _ _ forks owed))) in
      record { bytes = let x = all.bytes in omega (arith, x, n); few = let x = all.few in omega (arith, x, n) }
