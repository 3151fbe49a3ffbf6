-- The answer by counts is that over the sides' choices.
use Rattle.std.specs.Prelude.{ℕ, ◌+◌, ◌-◌, ◌^◌, ◌≤◌, ◌<◌, ◌≡◌, Bool, true, false, ◌&&◌, cond}
use Rattle.std.proofs.Math.Path.{refl}
use Rattle.std.proofs.Common.{sym, ◌∙◌, inl, inr, arith}
use Rattle.std.specs.Int.Bits.{bit_xor}
use Rattle.std.specs.Int.Count.{ones}
use Rattle.laws.specs.Test.{clash, and_l}
use Rattle.laws.specs.Scan.{those_fewer}
use Rattle.laws.specs.Peers.{member, ones_members, ones_most}
use Rattle.laws.specs.Tally.{tally, tally_split, xor_ones}
use Rattle.spec.specs.Game.{Game, keeps, spoils, game_ok, forced_by, forced}
use Rattle.spec.specs.GameRefusal.{GameOk, ok_is, Within, within_ones}
use Rattle.spec.proofs.GameDetermined.{exactly}
use Rattle.game.specs.declared.Reach.TheVariants.{Forced, Prevented, Refused}
use Rattle.game.specs.declared.Reach.{Reach}
use Rattle.game.specs.Model.{refusal_of, forced_of, Answers, Numbers}

-- no two answers are one
forced-refused : Forced ≡ Refused → ⊥
forced-refused e = let z : ◌≡◌ {A = ℕ} 0 1 = cc in omega arith

prevented_refused : Prevented ≡ Refused → ⊥
prevented_refused e = let z : ◌≡◌ {A = ℕ} 0 1 = cc in omega arith

forced_prevented : Forced ≡ Prevented → ⊥
forced_prevented e = let z : ◌≡◌ {A = ℕ} 0 1 = cc in omega arith

-- a set inside another is not larger
pub within-le : (a b : ℕ) → a < 2 ^ 32 → b < 2 ^ 32 → Within a b → ones a ≤ ones b
within-le a b k l h =
    let n : ones b ≡ tally 32 (member b) = ones_members 32 b l in
    let m : ones a ≡ tally 32 (λ x. member b x && member a x) = within_ones a b k h in
    let o : tally 32 (λ x. member b x && member a x) ≤ tally 32 (member b) = those_fewer 32 (member b) (λ x. member b x && member a x) (λ x _ t. and_l (member b x) (member a x) t) in
    omega arith

-- refused
pub answers-refused : (g : Game) (reach d : ℕ) (o : Bool) → o ≡ game_ok g reach d → o ≡ false → Answers g reach d Refused
answers-refused g reach d o e f =
    let bad : game_ok g reach d ≡ false = sym e ∙ f in
    record {
      refused = (λ _. bad, λ _. refl);
      forced = (λ h. absurd (forced-refused (sym h)), λ (t, _). absurd (clash t bad));
      prevented = (λ h. absurd (prevented_refused (sym h)), λ (t, _). absurd (clash t bad));
    }

-- not refused: the author's number
pub author-fits : (g : Game) (reach d : ℕ) (o : Bool) → o ≡ game_ok g reach d → o ≡ true → g.author < 32
author-fits g reach d o e t = ((ok_is g reach d).0 (sym e ∙ t)).low

-- not refused: the ones of both sides, and of the peers that reach
module _ (g : Game) (reach d : ℕ) (o : Bool) (e : o ≡ game_ok g reach d) (t : o ≡ true) (kept spoilt r : ℕ) (a : kept ≡ ones g.keepers) (b : spoilt ≡ ones (bit_xor g.peers g.keepers)) (c : r ≡ ones reach) (p : g.peers < 2 ^ 32) (k : g.keepers < 2 ^ 32) (w : reach < 2 ^ 32) where
  ok : GameOk g reach d
  ok = (ok_is g reach d).0 (sym e ∙ t)

  -- the spoilers are the rest of the peers
  sides : (kept + spoilt ≡ ones g.peers) × (spoilt ≡ ones g.peers - ones g.keepers)
  sides =
      let n : ones g.peers ≡ tally 32 (member g.peers) = ones_members 32 g.peers p in
      let i : ones g.keepers ≡ tally 32 (keeps g) = within_ones g.keepers g.peers k ok.kept in
      let h : tally 32 (member g.peers) ≡ tally 32 (keeps g) + tally 32 (spoils g) = tally_split 32 (member g.peers) (member g.keepers) in
      let s : ones (bit_xor g.peers g.keepers) ≡ tally 32 (spoils g) = xor_ones 32 g.peers g.keepers p k ok.kept in
      (omega arith, omega arith)

  -- there are at most 32
  pub sum_fits : kept + spoilt ≤ 32
  sum_fits = let s = sides.0 in let m : ones g.peers ≤ 32 = ones_most g.peers p in omega arith

  -- those that reach are some of them
  pub reach-fits : r ≤ kept + spoilt
  reach-fits = let s = sides.0 in let m : ones reach ≤ ones g.peers = within-le reach g.peers w p ok.reached in omega arith

  -- the test by counts is 02's
  module _ (m v : Bool) (f : m ≡ member g.keepers g.author) (h : v ≡ forced_by g.quorum m (kept + spoilt) r spoilt d) where
    same : v ≡ forced g reach d
    unfolding forced
    same = h ∙ rw (f, sides.0, sides.1, c) refl

    pub answers-forced : v ≡ true → Answers g reach d Forced
    answers-forced u =
        let good : game_ok g reach d ≡ true = sym e ∙ t in
        let x = exactly g reach d p k w good in
        let y : forced g reach d ≡ true = sym same ∙ u in
        record {
          refused = (λ z. absurd (forced-refused z), λ z. absurd (clash good z));
          forced = (λ _. (good, x.0.0 y), λ _. refl);
          prevented = (λ z. absurd (forced_prevented z), λ (_, z). absurd (clash y (x.1.1 z)));
        }

    pub answers_prevented : v ≡ false → Answers g reach d Prevented
    answers_prevented u =
        let good : game_ok g reach d ≡ true = sym e ∙ t in
        let x = exactly g reach d p k w good in
        let y : forced g reach d ≡ false = sym same ∙ u in
        record {
          refused = (λ z. absurd (prevented_refused z), λ z. absurd (clash good z));
          forced = (λ z. absurd (forced_prevented (sym z)), λ (_, z). absurd (clash (x.0.1 z) y));
          prevented = (λ _. (good, x.1.0 y), λ _. refl);
        }

-- in two numbers
numbers : (g : Game) (reach d : ℕ) (x : Reach) (m f : ℕ) → Answers g reach d x → m ≡ refusal_of x → f ≡ cond (forced_of x) 1 0 → Numbers g reach d m f
unfolding refusal_of forced_of
numbers g reach d Forced m f a em ef =
    let (good, w) = a.forced.0 refl in
    record {
      refused = rw good em;
      yes_or_no = inr ef;
      forced = (λ _. (good, w), λ _. ef);
      prevented = (λ (_, z). absurd (omega arith), λ z. absurd (forced_prevented (a.prevented.1 z)));
    }
numbers g reach d Prevented m f a em ef =
    let (good, w) = a.prevented.0 refl in
    record {
      refused = rw good em;
      yes_or_no = inl ef;
      forced = (λ z. absurd (omega arith), λ z. absurd (forced_prevented (sym (a.forced.1 z))));
      prevented = (λ _. (good, w), λ _. (em, ef));
    }
numbers g reach d Refused m f a em ef =
    let bad = a.refused.0 refl in
    record {
      refused = rw bad em;
      yes_or_no = inl ef;
      forced = (λ z. absurd (omega arith), λ (t, _). absurd (clash t bad));
      prevented = (λ (z, _). absurd (omega arith), λ (t, _). absurd (clash t bad));
    }

pub numbers-forced : (g : Game) (reach d : ℕ) (x : Reach) (b : Bool) (m : ℕ) → Answers g reach d x → m ≡ refusal_of x → b ≡ forced_of x → b ≡ true → Numbers g reach d m 1
numbers-forced g reach d x b m a em eb t = numbers g reach d x m 1 a em (rw (sym eb ∙ t) refl)

pub numbers_not : (g : Game) (reach d : ℕ) (x : Reach) (b : Bool) (m : ℕ) → Answers g reach d x → m ≡ refusal_of x → b ≡ forced_of x → b ≡ false → Numbers g reach d m 0
numbers_not g reach d x b m a em eb t = numbers g reach d x m 0 a em (rw (sym eb ∙ t) refl)
