-- The tables that naming leaves are read as the store that it leaves.
use Rattle.std.specs.Prelude.{ℕ, ◌+◌, ◌*◌, ◌≤◌, ◌<◌, ◌≡◌, List, true, false, cond, eqb, length, get_or, set}
use Rattle.std.proofs.Math.Path.{refl, ap}
use Rattle.std.proofs.Common.{sym, ◌∙◌, subst, ⊎_elim, inr, arith, add-one, get_or-set_same, get_or-set_other, eq-eqb, ne_eqb}
use Rattle.std.proofs.Math.ListN.{length-set}
use Rattle.laws.specs.Test.{clash, both, same_or}
use Rattle.laws.specs.Scan.{first-le}
use Rattle.spec.specs.Store.{unresolved, free, with_points}
use Rattle.spec.specs.Rules.{counts_as_started}
use Rattle.spec.specs.Calls.{new_point, name_at}
use Rattle.models.specs.Parts.{id_of}
use Rattle.models.specs.Cert.{flags_of, height_of}
use Rattle.models.specs.Digest.{Fit, words, digest_at}
use Rattle.models.specs.Tables.{status_at, Inside, Used, is_used, used_is}
use Rattle.models.specs.declared.parts.PointId.{PointId}
use Rattle.dag_round_keys.specs.Key.{key}
use Rattle.dag_round_keys.specs.Digest.{key_digest}
use Rattle.dag_round_keys.specs.Sorted.{Sorted, key_at, place_of, place-le, standing, standing-none}
use Rattle.dag_round_order.specs.Free.{free_is_free}
use Rattle.dag_round_order.specs.Shift.{inserted, inserted-inside}
use Rattle.dag_round_order.specs.Store.{stored, stored-length, stored_other, stored-own, key-own, put-sorted}
use Rattle.models.specs.Live.{Live}
use Rattle.tables_links.specs.Named.{Links}
use Rattle.commit_state.specs.View.{resolution_at, point_at, rounds_of, conf_of, progress_of, memory_of}
use Rattle.commit_state.specs.declared.state.State.{State}
use Rattle.tables_test.specs.Model.{shape, shape_says}
use Rattle.tables_test.specs.View.{words_fit, regular, seen_at, view}
use Rattle.tables_test.specs.Same.{Same, same_names, same_point, same_fit}
use Rattle.tables_test.specs.Regular.{regular_intro, phase_same, places_same}
use Rattle.tables_test.specs.Refines.{Started, counted}
use Rattle.dag_round_points.specs.Model.{Ready, id_words, name_code, taken, named_state, named_keys, named_certs, named_order, table_zero, name-zero}
use Rattle.dag_round_points.specs.Used.{inserted-length, used_inserted, inserted_used, has-place}
use Rattle.dag_round_points.specs.Tests.{ready}

module _ (s : State) (ks ls cs os : List ℕ) (i : PointId) (fk : Fit ks) (fl : Fit ls) (h : counts_as_started (view s ks ls cs os) ≡ true) (z : name_code s ks os i ≡ 0) where
  -- the number of used places
  abbrev n : ℕ
  n = s.count

  -- the id's words
  abbrev w : List ℕ
  w = id_words i

  -- the place that is taken
  abbrev q : ℕ
  q = taken s os

  -- where the id's key belongs
  abbrev at : ℕ
  at = place_of ks os n (key w 0)

  -- the keys after
  abbrev us : List ℕ
  us = stored ks w q 8

  -- the certificate words after
  abbrev ds : List ℕ
  ds = set cs q 0

  -- the order after
  abbrev ps : List ℕ
  ps = inserted os n at q

  -- what the tables hold
  t : Started s ks ls cs os
  t = counted s ks ls cs os fk fl h

  -- they can be read
  r : Ready s ks os
  r = ready s ks ls cs os fk fl h

  -- the place is free, and there is room
  room : (q < length os) × (n < length os)
  room = has-place s ks os i r z

  -- its words lie in the table
  fits : q * 8 + 8 ≤ length ks
  fits = omega (arith, room.0, r.0)

  -- as many certificate words as places
  long : length cs ≡ length os
  long = (shape_says ks ls cs os t.shaped).2

  -- the key belongs among the used places, or after them
  at_le : at ≤ n
  at_le = place-le ks os n (key w 0)

  -- no position holds the place
  unused : is_used os n q ≡ false
  unused = free_is_free os n (length os) room.0

  -- so it is none of the used ones
  apart : (p : ℕ) → Used os n p → p ≡ q → ⊥
  apart p u e = clash ((used_is os n p).1 u) (ap (is_used os n) e ∙ unused)

  -- the id's key stood nowhere
  fresh : (p : ℕ) → p < n → key_at ks os p ≡ key w 0 → ⊥
  unfolding standing
  fresh p l e =
      let most : standing ks os n (key w 0) ≤ n = first-le _ n in
      standing-none ks os n (key w 0) (omega (arith, most, (table_zero ks os n w (name-zero s ks os i z).1).0)) p l e

  -- the place has the id's words
  own : (f : ℕ) → f < 8 → get_or us (q * 8 + f) 0 ≡ get_or w f 0
  own f l = stored-own ks w q 8 f fits (omega arith) l

  -- other places keep theirs
  other : (p : ℕ) → (p ≡ q → ⊥) → Same ks 8 p us
  other p d f l = stored_other ks w q 8 p f (omega arith) l d

  -- its certificate word is 0
  cert_own : get_or ds q 0 ≡ 0
  cert_own = get_or-set_same cs q 0 0 (omega (arith, room.0, long))

  -- the others keep theirs
  cert_other : (p : ℕ) → (p ≡ q → ⊥) → get_or ds p 0 ≡ get_or cs p 0
  cert_other p d = get_or-set_other cs q p 0 0 d

  -- as the words of a table
  cert_same : (p : ℕ) → (p ≡ q → ⊥) → Same cs 1 p ds
  cert_same p d j l = let e : p * 1 + j ≡ p = omega arith in rw e (cert_other p d)

  -- the new point
  point-own : point_at us ls ds q ≡ new_point (id_of i)
  unfolding point_at resolution_at new_point flags_of id_words words digest_at
  point-own = λ j. record {
    named = true;
    id = record { round = own 0 (omega arith) j; author = own 1 (omega arith) j; digest = key_digest us w q 0 (key-own ks w q fits) j };
    resolution = resolution j;
    flags = flags_of (cert_own j);
  }
    where
      resolution : resolution_at us ls q ≡ unresolved
      resolution = rw (eq-eqb (status_at us q) 0 (own 6 (omega arith))) refl

  -- the others
  point-other : (p : ℕ) → (p ≡ q → ⊥) → point_at us ls ds p ≡ point_at ks ls cs p
  point-other p d = same_point ks ls cs us ls ds p (other p d) (λ j l. refl) (cert_same p d)

  -- the places in use
  used_more : (p : ℕ) → is_used ps (n + 1) p ≡ cond (eqb p q) true (is_used os n p)
  used_more p = rw (add-one n) (inserted_used os n at q at_le room.1 p)

  -- what is read of a place
  seen : {A : Type 0} (f g : ℕ → A) (new none : A) → f q ≡ new → ((p : ℕ) → (p ≡ q → ⊥) → f p ≡ g p) → (p : ℕ)
      → cond (is_used ps (n + 1) p) (f p) none ≡ cond (eqb p q) new (cond (is_used os n p) (g p) none)
  seen f g new none a b p =
      same_or p q
      (λ e. rw (used_more p, eq-eqb p q e) (ap f e ∙ a))
      (λ d. rw (used_more p, ne_eqb p q d, b p d) refl)

  -- a place in use is the new one or an old one
  used_elim : {A : Type 0} (p : ℕ) → Used ps (n + 1) p → (p ≡ q → A) → (Used os n p → A) → A
  used_elim p u f g = ⊎_elim f g ((used_inserted os n at q at_le room.1 p).0 (subst (λ (m : ℕ). Used ps m p) (add-one n) u))

  -- an old one is in use
  still_used : (p : ℕ) → Used os n p → Used ps (n + 1) p
  still_used p u = subst (λ (m : ℕ). Used ps m p) (sym (add-one n)) ((used_inserted os n at q at_le room.1 p).1 (inr u))

  -- as many places
  length_is : length ps ≡ length os
  length_is = inserted-length os n at q at_le room.1

  -- the order holds places
  inside-after : Inside ps (n + 1) (length ps)
  inside-after = rw (add-one n, length_is) (inserted-inside os n at q (length os) at_le room.1 room.0 r.3)

  -- sorted by their keys
  sorted_after : Sorted us ps (n + 1)
  sorted_after = rw (add-one n) (put-sorted ks w os n q r.4 room.1 fits unused fresh)

  -- live links lead to the used places that they name; the new point has none
  links-after : Links s.bottom.0 us ls ps (n + 1)
  unfolding id_words
  links-after p k u live a =
      used_elim p u
      (λ e. absurd (let st : status_at us q ≡ 0 = own 6 (omega arith) in let y : status_at us p ≡ status_at us q = ap (status_at us) e in omega (arith, st, y, live.0)))
      (λ v. let d = apart p v in
      let old : Live s.bottom.0 ks p k = (omega (arith, live.0, other p d 6 (omega arith)), live.1, omega (arith, live.2, other p d 0 (omega arith)), omega (arith, live.3, other p d 6 (omega arith))) in
      let (x, y, e, m) = t.facts.right p k v old a in
      (x, still_used x y, e, same_names ls ls p (λ j l. refl) ks us k x (other p d) (other x (apart x y)) live.1 m))

  -- the words of every used place are values
  fit_after : (p : ℕ) → Used ps (n + 1) p → words_fit us ls ds p ≡ true
  unfolding words_fit id_words
  fit_after p u =
      used_elim p u
      (λ e. rw (e, own 7 (omega arith), own 6 (omega arith), cert_own) refl)
      (λ v. let d = apart p v in same_fit ks ls cs us ls ds p (other p d) (λ j l. refl) (cert_same p d) ∙ t.fits p v)

  -- the tables are regular
  regular-after : regular (named_state s) us ls ds ps ≡ true
  unfolding named_state
  regular-after =
      regular_intro (named_state s) us ls ds ps (omega (arith, length_is, r.1)) (record {
        room = omega (arith, room.1, length_is);
        memory = t.memory_ok;
        inside = inside-after;
        sorted = sorted_after;
        right = links-after;
        fits = fit_after;
      })

  -- they have the same shape
  shape-after : shape us ls ds ps ≡ true
  unfolding shape
  shape-after =
      let (a, b, c) = shape_says ks ls cs os t.shaped in
      both (eq-eqb (length us) (length ps * 8) (omega (arith, stored-length ks w q 8, length_is, a)))
      (both (eq-eqb (length ls) (length ps * 328) (omega (arith, length_is, b))) (eq-eqb (length ds) (length ps) (omega (arith, length-set cs q 0, length_is, c))))

  -- the view after naming
  pub named-view : view (named_state s) (named_keys s ks os i) ls (named_certs s cs os) (named_order s ks os i) ≡ name_at (view s ks ls cs os) (id_of i) (taken s os)
  unfolding view seen_at name_at with_points named_state named_keys named_certs named_order conf_of progress_of height_of
  named-view = λ j. record {
    phase = phase_same s (named_state s) ks ls cs os us ls ds ps t.shaped t.regulated shape-after regular-after refl j;
    places = places_same s (named_state s) ks ls cs os us ls ds ps t.shaped t.regulated shape-after length_is j;
    pt = λ p. seen (point_at us ls ds) (point_at ks ls cs) (new_point (id_of i)) free point-own point-other p j;
    heights = λ p. seen (λ x. height_of (get_or ds x 0)) (λ x. height_of (get_or cs x 0)) 0 0 (ap height_of cert_own) (λ x d. ap height_of (cert_other x d)) p j;
    bottom = s.bottom.0;
    top = s.top.0;
    rounds = rounds_of s;
    conf = conf_of s;
    progress = progress_of s;
    memory = memory_of s.memory;
  }
