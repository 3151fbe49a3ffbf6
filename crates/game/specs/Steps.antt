-- A law for each way out of the code.
use Rattle.std.specs.Prelude.{ℕ, ◌+◌, ◌-◌, ◌≤◌, ◌<◌, ◌≡◌, refl, Bool, true, false, not, ◌&&◌, ◌||◌, leb, ltb}
use Rattle.std.proofs.Common.{sym, ◌∙◌, ap, arith, add-one, le-ltb, lt-ltb}
use Rattle.std.specs.Int.Count.{ones}
use Rattle.laws.specs.Test.{only, and_no, and_yes}
use Rattle.laws.specs.Scan.{every}
use Rattle.laws.specs.Peers.{member}
use Rattle.spec.specs.Game.{Game, within, game_ok, forced_by}

-- every peer of a below n is one of b
unfoldable pub within_to : (n a b : ℕ) → Bool
within_to n a b = every n (λ k. only (member a k) (member b k))

pub within_none : (a b : ℕ) → true ≡ within_to 0 a b
unfolding within_to every
within_none a b = refl

pub within_more : (a b k : ℕ) (h x y z r : Bool) → h ≡ within_to k a b → x ≡ member a k → y ≡ member b k → z ≡ (not x || y) → r ≡ (z && h) → r ≡ within_to (k + 1) a b
unfolding within_to every
within_more a b k h x y z r e f g i j =
    let t : r ≡ (only (member a k) (member b k) && within_to k a b) = cc in rw add-one t

pub within_end : (a b k : ℕ) (h : Bool) → h ≡ within_to k a b → k ≤ 32 → 32 ≤ k → h ≡ within a b
unfolding within_to within
within_end a b k h e l m = let n : k ≡ 32 = omega arith in e ∙ ap (λ i. within_to i a b) n

-- the test by counts
pub counts-test : (q : ℕ) (author_keeps : Bool) (n r s d : ℕ) (x y z o : Bool) → x ≡ (ltb 1 d && ltb s q) → y ≡ (author_keeps || x) → z ≡ (ltb 0 r && y) → o ≡ (ltb (n - r) q || z) → o ≡ forced_by q author_keeps n r s d
unfolding forced_by
counts-test q author_keeps n r s d x y z o f g h i = cc

-- an author that is no peer's number
pub author_high : (g : Game) (reach d : ℕ) → 31 < g.author → false ≡ game_ok g reach d
unfolding game_ok
author_high g reach d l = sym (and_no _ (le-ltb g.author 32 (omega arith)))

-- the other tests
pub author_low : (g : Game) (reach d n : ℕ) (p k w x y z a b c r : Bool) → g.author ≤ 31 → n ≡ ones g.peers
    → x ≡ (ltb 0 g.quorum && leb g.quorum n) → y ≡ (ltb 0 n && x)
    → p ≡ member g.peers g.author → k ≡ within g.keepers g.peers → w ≡ within reach g.peers
    → z ≡ (k && w) → a ≡ (ltb 0 d && leb d 255) → b ≡ (z && a) → c ≡ (p && b) → r ≡ (y && c) → r ≡ game_ok g reach d
unfolding game_ok
author_low g reach d n p k w x y z a b c r l en ex ey ep ek ew ez ea eb ec er =
    sym (and_yes (lt-ltb g.author 32 (omega arith)) (rw (← en) (cc)))
