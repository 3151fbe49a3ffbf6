-- The rules of the numbers in the state (01: 'Forms of the Rust', first point; 'Refusals' 1).
use Rattle.std.specs.Prelude.{ℕ, zero, suc, ◌+◌, ◌-◌, ◌<◌, ◌≤◌, ◌≡◌, refl, List, Bool, true, false, ◌&&◌, leb, ltb}
use Rattle.std.proofs.Math.Path.{sym}
use Rattle.std.proofs.Common.{arith, le-leb, lt-ltb, le-ltb}
use Rattle.std.proofs.lemmas.Bool.{lt-leb}
use Rattle.laws.specs.Test.{le_or, and_no, and_yes}
use Rattle.laws.specs.Scan.{every, every-same}
use Rattle.spec.specs.Store.{Store}
use Rattle.spec.specs.Rules.{used_ok, last_round, conf_ok, rounds_ok}
use Rattle.commit_state.specs.declared.state.RoundRecord.{RoundRecord}
use Rattle.commit_state.specs.View.{option_of, round_of, record_of, rounds_of, conf_of}
use Rattle.commit_state.specs.Reads.{window_in}
use Rattle.commit_state.specs.declared.state.State.{State}

-- start's ranges of H and of the rounds to deduplicate
unfoldable pub conf_holds : ℕ → ℕ → Bool
conf_holds h d = ltb 0 h && (leb h 255 && leb d 65_535)

-- a used mark's number: an author plus 1, or none
pub used_is : (x : ℕ) → used_ok (option_of x) ≡ leb x 32
unfolding used_ok option_of
used_is zero = sym (le-leb 0 32 (omega arith))
used_is (suc n) = refl

-- genesis, bottom, top
unfoldable pub range_holds : ℕ → ℕ → ℕ → Bool
range_holds g b t = leb g b && (leb b t && (leb t last_round && ltb (t - b) 512))

-- the used marks of the rounds from b on
unfoldable pub used_hold : List RoundRecord → ℕ → ℕ → Bool
used_hold xs b n = every n (λ k. leb (record_of xs (b + k)).used_anchor_proof 32)

-- one law for each way out
pub conf-none : (h d : ℕ) → h ≡ 0 → false ≡ conf_holds h d
unfolding conf_holds
conf-none h d e = sym (and_no _ (le-ltb 0 h (omega arith)))

pub conf_above : (h d : ℕ) → 255 < h → false ≡ conf_holds h d
unfolding conf_holds
conf_above h d l = sym (and_yes (lt-ltb 0 h (omega arith)) (and_no _ (lt-leb h 255 l)))

pub conf_last : (h d : ℕ) → (h ≡ 0 → ⊥) → h ≤ 255 → leb d 65_535 ≡ conf_holds h d
unfolding conf_holds
conf_last h d n l = sym (and_yes (lt-ltb 0 h (omega arith)) (and_yes (le-leb h 255 l) refl))

module _ (g b t : ℕ) where
  pub range_genesis : b < g → false ≡ range_holds g b t
  unfolding range_holds
  range_genesis l = sym (and_no _ (lt-leb g b l))

  pub range_bottom : g ≤ b → t < b → false ≡ range_holds g b t
  unfolding range_holds
  range_bottom l m = sym (and_yes (le-leb g b l) (and_no _ (lt-leb b t m)))

  pub range_top : g ≤ b → b ≤ t → last_round < t → false ≡ range_holds g b t
  unfolding range_holds
  range_top l m n = sym (and_yes (le-leb g b l) (and_yes (le-leb b t m) (and_no _ (lt-leb t last_round n))))

  pub range_last : g ≤ b → b ≤ t → t ≤ last_round → ltb (t - b) 512 ≡ range_holds g b t
  unfolding range_holds
  range_last l m n = sym (and_yes (le-leb g b l) (and_yes (le-leb b t m) (and_yes (le-leb t last_round n) refl)))

-- ---- the rules of 01

pub conf_is : (s : State) → conf_ok (conf_of s) ≡ conf_holds s.commit_history_rounds s.deduplicate_rounds
unfolding conf_ok conf_of conf_holds
conf_is s = refl

-- all of the retained rounds
unfoldable pub rounds_hold : State → Bool
rounds_hold s = range_holds s.genesis.0 s.bottom.0 s.top.0 && used_hold s.rounds s.bottom.0 (suc (s.top.0 - s.bottom.0))

-- 01's rule of the rounds, of a store that reads them from s
pub rounds_is : (s : State) (v : Store) → v.conf ≡ conf_of s → v.bottom ≡ s.bottom.0 → v.top ≡ s.top.0 → v.rounds ≡ rounds_of s → rounds_ok v ≡ rounds_hold s
unfolding rounds_ok rounds_hold range_holds used_hold conf_of round_of
rounds_is s v e f g h =
    rw (e, f, g, h)
    (le_or s.bottom.0 s.top.0
    (λ l. rw (le-leb s.bottom.0 s.top.0 l, every-same (suc (s.top.0 - s.bottom.0)) _ (λ k. leb (record_of s.rounds (s.bottom.0 + k)).used_anchor_proof 32) (marks l)) (regroup (leb s.genesis.0 s.bottom.0) (leb s.top.0 last_round) (ltb (s.top.0 - s.bottom.0) 512) (used_hold s.rounds s.bottom.0 (suc (s.top.0 - s.bottom.0)))))
    (λ l. rw (lt-leb s.bottom.0 s.top.0 l) (and-falls (leb s.genesis.0 s.bottom.0) _)))
  where
    marks : s.bottom.0 ≤ s.top.0 → (k : ℕ) → k < suc (s.top.0 - s.bottom.0) → used_ok (rounds_of s (s.bottom.0 + k)).used ≡ leb (record_of s.rounds (s.bottom.0 + k)).used_anchor_proof 32
    marks l k m = rw (window_in s.rounds s.bottom.0 s.top.0 (s.bottom.0 + k) (omega arith) (omega arith)) (used_is (record_of s.rounds (s.bottom.0 + k)).used_anchor_proof)

    regroup : (a c d e : Bool) → (a && (c && (d && e))) ≡ ((a && (c && d)) && e)
    regroup true true d e = refl
    regroup true false d e = refl
    regroup false c d e = refl

    and-falls : (a b : Bool) → (a && false) ≡ ((a && false) && b)
    and-falls true b = refl
    and-falls false b = refl
