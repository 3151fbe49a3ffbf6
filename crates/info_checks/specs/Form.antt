-- The form of a resolution as the code tests it (01: 'Refusals' 11).
use Prim.Native.Nat.{ℕ, zero, suc, ◌+◌, ◌-◌, ◌*◌, ◌≤◌, ◌<◌}
use Rattle.std.specs.Prelude.{◌≡◌, List, Bool, false, ◌&&◌, ◌||◌, eqb, ltb, length, get_or}
use Rattle.std.proofs.Math.Path.{refl, sym, ap}
use Rattle.std.proofs.Common.{◌∙◌}
use Rattle.std.proofs.Math.Bool.{true}
use native.Mathlib.Omega.{arith}
use Rattle.std.proofs.Math.Dec.{leb}
use borrow.Author.Tests.{eq-eqb, eqb-true, le-leb, lt-leb, leb-true, le-ltb, lt-ltb, ltb-true}
use Rattle.laws.specs.Test.{by_test, clash, and_l, and_r, and_no, and_yes, only, le_or}
use Rattle.spec.specs.Ids.{Ref}
use Rattle.spec.specs.Store.{Resolution}
use Rattle.spec.specs.Rules.{peers_ascend, refs_ok, well_formed}
use Rattle.models.specs.DagPoint.{case_of, has_info}
use Rattle.models.specs.Parts.{id_of}
use Rattle.models.specs.Info.{refs_of, info_of}
use Rattle.models.specs.declared.dag_point.DagPoint.{DagPoint}
use Rattle.models.specs.declared.info.PointInfo.{PointInfo}
use Rattle.std.specs.Prelude.{None, Option, Some}

-- ---- rising peers

-- the peer of link j
abbrev pub peer_at : List ℕ → ℕ → ℕ
peer_at rs j = get_or rs (j * 5 + 0) 0

-- the peers of m links, from link j on, rise from low on and are below 32
unfoldable pub rises_from : List ℕ → ℕ → ℕ → ℕ → Bool
rises_from rs low j zero = true
rises_from rs low j (suc m) = leb low (peer_at rs j) && (ltb (peer_at rs j) 32 && rises_from rs (peer_at rs j + 1) (j + 1) m)

-- below, as at most one less
less-next : (x y : ℕ) → ltb x y ≡ leb (x + 1) y
less-next x y = le_or (x + 1) y (λ l. lt-ltb x y (omega arith) ∙ sym (le-leb (x + 1) y l)) (λ l. le-ltb x y (omega arith) ∙ sym (lt-leb (x + 1) y l))

-- they rise as 11 asks, and the first is not below low
rise_from : (rs : List ℕ) (low j m : ℕ) → rises_from rs low j (suc m) ≡ (leb low (peer_at rs j) && peers_ascend (refs_of rs j (suc m)))
unfolding rises_from peers_ascend refs_of
rise_from rs low j zero = refl
rise_from rs low j (suc m) =
    ap (λ z. leb low (peer_at rs j) && (ltb (peer_at rs j) 32 && z))
    (rise_from rs (peer_at rs j + 1) (j + 1) m ∙ ap (λ z. z && peers_ascend (refs_of rs (j + 1) (suc m))) (sym (less-next (peer_at rs j) (peer_at rs (j + 1)))))

-- the peers rise as 11 asks
pub rise_is : (rs : List ℕ) (j m : ℕ) → rises_from rs 0 j m ≡ peers_ascend (refs_of rs j m)
unfolding rises_from peers_ascend refs_of
rise_is rs j zero = refl
rise_is rs j (suc m) = rise_from rs 0 j m ∙ and_yes (le-leb 0 (peer_at rs j) (omega arith)) refl

-- no link seen yet
pub rise_start : (rs : List ℕ) (j m : ℕ) → rises_from rs 0 j m ≡ rises_from rs 0 (j + 0) (m - 0)
rise_start rs j m =
    let e : j + 0 ≡ j = omega arith in
    let f : m - 0 ≡ m = omega arith in
    rw (e, f) refl

-- the loop over the links, at link j + i with the least peer that may come
module _ (rs : List ℕ) (j m low i : ℕ) (whole : rises_from rs 0 j m ≡ rises_from rs low (j + i) (m - i)) where
  -- the peer there
  abbrev peer : ℕ
  peer = peer_at rs (j + i)

  -- one link more
  rise_step : i < m → rises_from rs 0 j m ≡ (leb low peer && (ltb peer 32 && rises_from rs (peer + 1) (j + (i + 1)) (m - (i + 1))))
  unfolding rises_from
  rise_step l =
      let e : m - i ≡ suc (m - (i + 1)) = omega arith in
      let f : j + i + 1 ≡ j + (i + 1) = omega arith in
      whole ∙ (ap (rises_from rs low (j + i)) e ∙ ap (λ (x : ℕ). leb low peer && (ltb peer 32 && rises_from rs (peer + 1) x (m - (i + 1)))) f)

  -- the peer does not rise
  pub rise_low : i < m → (x : ℕ) → x ≡ peer → x < low → false ≡ peers_ascend (refs_of rs j m)
  rise_low l x e k = sym (sym (rise_is rs j m) ∙ (rise_step l ∙ and_no _ (lt-leb low peer (omega arith))))

  -- the peer is above 31
  pub rise_high : i < m → (x : ℕ) → x ≡ peer → low ≤ x → 32 ≤ x → false ≡ peers_ascend (refs_of rs j m)
  rise_high l x e k h = sym (sym (rise_is rs j m) ∙ (rise_step l ∙ and_yes (le-leb low peer (omega arith)) (and_no _ (le-ltb peer 32 (omega arith)))))

  -- it goes on
  pub rise_more : i < m → (x : ℕ) → x ≡ peer → low ≤ x → x < 32 → rises_from rs 0 j m ≡ rises_from rs (x + 1) (j + (i + 1)) (m - (i + 1))
  rise_more l x e k h =
      rise_step l
      ∙ and_yes (le-leb low peer (omega arith)) (and_yes (lt-ltb peer 32 (omega arith)) (ap (λ (y : ℕ). rises_from rs (y + 1) (j + (i + 1)) (m - (i + 1))) (sym e)))

  -- no link is left
  pub rise_end : m ≤ i → true ≡ peers_ascend (refs_of rs j m)
  unfolding rises_from
  rise_end l = let e : m - i ≡ 0 = omega arith in sym (sym (rise_is rs j m) ∙ (whole ∙ ap (rises_from rs low (j + i)) e))

-- ---- the links of a kind

-- m links
pub refs_length : (rs : List ℕ) (j m : ℕ) → length (refs_of rs j m) ≡ m
unfolding refs_of
refs_length rs j zero = refl
refs_length rs j (suc m) = ap suc (refs_length rs (j + 1) m)

module _ (rs : List ℕ) (j m d r : ℕ) (most : m ≤ 32) where
  -- the links
  abbrev refs : List Ref
  refs = refs_of rs j m

  -- what is asked of them
  kind_is : refs_ok d r refs ≡ (peers_ascend refs && only (ltb r d) (eqb m 0))
  unfolding refs_ok
  kind_is = rw (refs_length rs j m, le-leb m 32 most) refl

  -- their peers do not rise
  pub kind-falls : peers_ascend refs ≡ false → false ≡ refs_ok d r refs
  kind-falls f = sym (kind_is ∙ and_no _ f)

  -- they lead to no round below 0
  pub kind-near : peers_ascend refs ≡ true → d ≤ r → true ≡ refs_ok d r refs
  kind-near t l = sym (kind_is ∙ and_yes t (rw (le-ltb r d l) refl))

  -- they would: there are none
  pub kind_far : peers_ascend refs ≡ true → r < d → eqb m 0 ≡ refs_ok d r refs
  kind_far t l = sym (kind_is ∙ and_yes t (rw (lt-ltb r d l) refl))

-- ---- the status

-- the status is one of the five, and 4 or 5 only where there are no links and no evidence
unfoldable pub status_ok : ℕ → Bool → Bool
status_ok x bare = (ltb 0 x && leb x 5) && only (leb 4 x) bare

-- the same of the case that it stands for
unfoldable pub case_ok : Option DagPoint → Bool → Bool
case_ok (Some p) bare = has_info p || bare
case_ok None bare = false

-- no status is above 5
above_five : (x : ℕ) (bare : Bool) → 5 < x → status_ok x bare ≡ false
unfolding status_ok
above_five x bare l = and_no (only (leb 4 x) bare) (and_yes (lt-ltb 0 x (omega arith)) (lt-leb x 5 l))

-- they are one test
pub case_is : (x : ℕ) (bare : Bool) → case_ok (case_of x) bare ≡ status_ok x bare
unfolding case_ok case_of has_info status_ok
case_is zero bare = refl
case_is (suc zero) bare = refl
case_is (suc (suc zero)) bare = refl
case_is (suc (suc (suc zero))) bare = refl
case_is (suc (suc (suc (suc zero)))) bare = refl
case_is (suc (suc (suc (suc (suc zero))))) bare = refl
case_is (suc (suc (suc (suc (suc (suc x)))))) bare = sym (above_five (suc (suc (suc (suc (suc (suc x)))))) bare (omega arith))

-- a case with links and evidence
pub status_full : (x : ℕ) (bare b : Bool) (c : Option DagPoint) (p : DagPoint) → c ≡ case_of x → c ≡ Some p → b ≡ has_info p → b ≡ true → true ≡ status_ok x bare
unfolding case_ok
status_full x bare b c p e f g t = sym (sym (case_is x bare) ∙ (ap (λ z. case_ok z bare) (sym e ∙ f) ∙ ap (λ z. z || bare) (sym g ∙ t)))

-- a case without
pub status_bare : (x : ℕ) (bare b : Bool) (c : Option DagPoint) (p : DagPoint) → c ≡ case_of x → c ≡ Some p → b ≡ has_info p → b ≡ false → bare ≡ status_ok x bare
unfolding case_ok
status_bare x bare b c p e f g t = sym (sym (case_is x bare) ∙ (ap (λ z. case_ok z bare) (sym e ∙ f) ∙ ap (λ z. z || bare) (sym g ∙ t)))

-- none of the five
pub status-none : (x : ℕ) (bare : Bool) (c : Option DagPoint) → c ≡ case_of x → c ≡ None → false ≡ status_ok x bare
unfolding case_ok
status-none x bare c e f = sym (sym (case_is x bare) ∙ ap (λ z. case_ok z bare) (sym e ∙ f))

-- ---- the whole resolution

-- the links are at most 32 of a kind, and as many as the resolution says
abbrev pub Shaped : PointInfo → List ℕ → Type 0
Shaped info rs = (info.includes ≤ 32) × (info.witness ≤ 32) × (length rs ≡ (info.includes + info.witness) * 5)

-- the first of five tests made last
turn : (a b c d e : Bool) → (a && (b && (c && (d && e)))) ≡ (b && (c && (d && (a && e))))
turn true b c d e = refl
turn false true true true e = refl
turn false true true false e = refl
turn false true false d e = refl
turn false false c d e = refl

module _ (info : PointInfo) (rs : List ℕ) where
  -- the includes
  abbrev inc : List Ref
  inc = refs_of rs 0 info.includes

  -- the witness
  abbrev wit : List Ref
  wit = refs_of rs info.includes info.witness

  -- what is given
  abbrev pub given : Resolution
  given = record {
    status = info.status;
    proof = info.proof;
    trigger = info.trigger;
    cause = info.cause;
    top_proof = id_of info.top_proof;
    evidence = info.evidence;
    includes = inc;
    witness = wit;
    payload_len = info.payload_len;
    payload_bytes = info.payload_bytes;
  }

  -- there are no links and no evidence
  abbrev bare : Bool
  bare = eqb info.includes 0 && (eqb info.witness 0 && eqb info.evidence 0)

  -- as many links as it says: it is what is given
  pub shaped_given : length rs ≡ (info.includes + info.witness) * 5 → info_of info rs ≡ given
  unfolding info_of
  shaped_given e = rw (eq-eqb (length rs) ((info.includes + info.witness) * 5) e) refl

  module _ (r : ℕ) where
    -- the tests in the code's order
    pub tests_are : Shaped info rs → (refs_ok 1 r inc && (refs_ok 2 r wit && (ltb info.top_proof.author 32 && status_ok info.status bare))) ≡ well_formed r (info_of info rs)
    unfolding well_formed status_ok
    tests_are (a, b, e) =
        sym (turn (ltb 0 info.status && leb info.status 5) (refs_ok 1 r inc) (refs_ok 2 r wit) (ltb info.top_proof.author 32) (only (leb 4 info.status) bare))
        ∙ sym (ap (well_formed r) (shaped_given e) ∙ rw (refs_length rs 0 info.includes, refs_length rs info.includes info.witness) refl)

    -- a kind has at most 32
    few : (d j m : ℕ) → refs_ok d r (refs_of rs j m) ≡ true → m ≤ 32
    unfolding refs_ok
    few d j m h = rw (refs_length rs j m) at (leb-true (length (refs_of rs j m)) 32 (and_l _ _ h))

    -- what is well-formed has links as many as it says
    pub formed_shaped : well_formed r (info_of info rs) ≡ true → Shaped info rs
    unfolding well_formed info_of
    formed_shaped h =
        by_test (eqb (length rs) ((info.includes + info.witness) * 5))
        (λ t. let e = eqb-true (length rs) ((info.includes + info.witness) * 5) t in
        let g : well_formed r given ≡ true = ap (well_formed r) (sym (shaped_given e)) ∙ h in
        let k = and_r (ltb 0 info.status && leb info.status 5) _ g in
        (few 1 0 info.includes (and_l (refs_ok 1 r inc) _ k), few 2 info.includes info.witness (and_l (refs_ok 2 r wit) _ (and_r (refs_ok 1 r inc) _ k)), e))
        (λ f. absurd (clash h (rw f refl)))

    -- what has not is not
    pub not_shaped : (Shaped info rs → ⊥) → false ≡ well_formed r (info_of info rs)
    not_shaped d = by_test (well_formed r (info_of info rs)) (λ t. absurd (d (formed_shaped t))) sym

-- ---- what the tests say of each link

-- the peers of m links, from link j on, are below 32
abbrev pub Peers : List ℕ → ℕ → ℕ → Type 0
Peers rs j m = (i : ℕ) → i < m → peer_at rs (j + i) < 32

-- rising peers are at least low, and below 32
pub rise_peers : (rs : List ℕ) (low j m : ℕ) → rises_from rs low j m ≡ true → (i : ℕ) → i < m → (low ≤ peer_at rs (j + i)) × (peer_at rs (j + i) < 32)
unfolding rises_from
rise_peers rs low j zero h i l = absurd (omega arith)
rise_peers rs low j (suc m) h zero l =
    let e : j + 0 ≡ j = omega arith in
    rw e (leb-true low (peer_at rs j) (and_l _ _ h), ltb-true (peer_at rs j) 32 (and_l _ _ (and_r (leb low (peer_at rs j)) _ h)))
rise_peers rs low j (suc m) h (suc i) l =
    let e : j + suc i ≡ j + 1 + i = omega arith in
    let (a, b) = rise_peers rs (peer_at rs j + 1) (j + 1) m (and_r (ltb (peer_at rs j) 32) _ (and_r (leb low (peer_at rs j)) _ h)) i (omega arith) in
    let c = leb-true low (peer_at rs j) (and_l _ _ h) in
    rw e (omega arith, b)

-- so each is below 32
pub rise_below : (rs : List ℕ) (j m : ℕ) → rises_from rs 0 j m ≡ true → Peers rs j m
rise_below rs j m h i l = (rise_peers rs 0 j m h i l).1

-- a kind that is as 11 asks rises
pub kind-rises : (rs : List ℕ) (d r j m : ℕ) → refs_ok d r (refs_of rs j m) ≡ true → rises_from rs 0 j m ≡ true
unfolding refs_ok
kind-rises rs d r j m h = rise_is rs j m ∙ and_l _ _ (and_r (leb (length (refs_of rs j m)) 32) _ h)

-- what 11 says of a resolution, part by part
pub record Formed (info : PointInfo) (rs : List ℕ) : Type 0 where
  pub shaped : Shaped info rs
  pub status : (0 < info.status) × (info.status ≤ 5)
  pub includes : rises_from rs 0 0 info.includes ≡ true
  pub witness : rises_from rs 0 info.includes info.witness ≡ true
  pub author : info.top_proof.author < 32

-- all of it
pub formed : (info : PointInfo) (rs : List ℕ) (r : ℕ) → well_formed r (info_of info rs) ≡ true → Formed info rs
unfolding status_ok
formed info rs r h =
    let x = formed_shaped info rs r h in
    let g = tests_are info rs r x ∙ h in
    let g2 = and_r (refs_ok 1 r (inc info rs)) _ g in
    let g3 = and_r (refs_ok 2 r (wit info rs)) _ g2 in
    let g4 = and_l (ltb 0 info.status && leb info.status 5) _ (and_r (ltb info.top_proof.author 32) _ g3) in
    record {
      shaped = x;
      status = (ltb-true _ _ (and_l (ltb 0 info.status) _ g4), leb-true _ _ (and_r (ltb 0 info.status) _ g4));
      includes = kind-rises rs 1 r 0 info.includes (and_l (refs_ok 1 r (inc info rs)) _ g);
      witness = kind-rises rs 2 r info.includes info.witness (and_l (refs_ok 2 r (wit info rs)) _ g2);
      author = ltb-true _ _ (and_l (ltb info.top_proof.author 32) _ g3);
    }

-- the peers rise from link to link
pub rise_apart : (rs : List ℕ) (low j m : ℕ) → rises_from rs low j m ≡ true → (a b : ℕ) → a < b → b < m → peer_at rs (j + a) < peer_at rs (j + b)
unfolding rises_from
rise_apart rs low j zero h a b l k = absurd (omega arith)
rise_apart rs low j (suc m) h zero b l k =
    let e : j + 0 ≡ j = omega arith in
    let f : j + b ≡ j + 1 + (b - 1) = omega arith in
    let g = (rise_peers rs (peer_at rs j + 1) (j + 1) m (and_r (ltb (peer_at rs j) 32) _ (and_r (leb low (peer_at rs j)) _ h)) (b - 1) (omega arith)).0 in
    rw (e, f) (omega arith)
rise_apart rs low j (suc m) h (suc a) b l k =
    let e : j + suc a ≡ j + 1 + a = omega arith in
    let f : j + b ≡ j + 1 + (b - 1) = omega arith in
    rw (e, f) (rise_apart rs (peer_at rs j + 1) (j + 1) m (and_r (ltb (peer_at rs j) 32) _ (and_r (leb low (peer_at rs j)) _ h)) a (b - 1) (omega arith) (omega arith))
