-- What `reach_of` answers.
use Rattle.std.specs.Prelude.{ℕ, ◌≡◌, ◌↔◌, ◌⊎◌, Bool, true, false, cond}
use Rattle.laws.specs.Peers.{member}
use Rattle.spec.specs.Game.{Game, Force, Prevent, game_ok}
use Rattle.game.specs.declared.Reach.{Reach}
use Rattle.game.specs.declared.Reach.TheVariants.{Forced, Prevented, Refused}

-- the game that the arguments say
abbrev pub game_of : (peers keepers q author : ℕ) → Game
game_of peers keepers q author = record { peers = peers; keepers = keepers; quorum = q; author = author }

-- 02, N14: "It refuses with 31"; 0 is no refusal
unfoldable pub refusal_of : Reach → ℕ
refusal_of Forced = 0
refusal_of Prevented = 0
refusal_of Refused = 31

-- yes or no
unfoldable pub forced_of : Reach → Bool
forced_of Forced = true
forced_of Prevented = false
forced_of Refused = false

-- "answer whether keepers can force the reach or spoilers can prevent it", over the sides' choices
pub record Answers (g : Game) (reach d : ℕ) (r : Reach) : Type 0 where
  pub refused : (r ≡ Refused) ↔ (game_ok g reach d ≡ false)
  pub forced : (r ≡ Forced) ↔ ((game_ok g reach d ≡ true) × Force g d (member reach))
  pub prevented : (r ≡ Prevented) ↔ ((game_ok g reach d ≡ true) × Prevent g d (member reach))

-- the same in two numbers: the refusal's, 0 for none; 1 for forced, else 0, so 0 where refused
pub record Numbers (g : Game) (reach d m f : ℕ) : Type 0 where
  pub refused : m ≡ cond (game_ok g reach d) 0 31
  pub yes_or_no : (f ≡ 0) ⊎ (f ≡ 1)
  pub forced : (f ≡ 1) ↔ ((game_ok g reach d ≡ true) × Force g d (member reach))
  pub prevented : ((m ≡ 0) × (f ≡ 0)) ↔ ((game_ok g reach d ≡ true) × Prevent g d (member reach))
