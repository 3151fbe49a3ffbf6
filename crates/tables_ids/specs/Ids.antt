-- Ids as naming tests them (01: 'Forms of the Rust', first point; 'Refusals' 5 and 6).
use Rattle.std.specs.Prelude.{ℕ, ◌<◌, ◌≤◌, ◌≡◌, refl, List, Bool, false, ◌&&◌, leb, ltb}
use Rattle.std.proofs.Math.Path.{sym}
use Rattle.std.proofs.Common.{◌∙◌, arith, le-leb, le-ltb, lt-ltb}
use Rattle.std.proofs.lemmas.Bool.{lt-leb}
use Rattle.laws.specs.Test.{and_no, and_yes}
use Rattle.laws.specs.Peers.{member}
use Rattle.models.specs.Tables.{round_at, author_at}
use Rattle.commit_state.specs.View.{record_of}
use Rattle.commit_state.specs.declared.state.State.{State}

unfoldable pub id_holds : ℕ → ℕ → ℕ → ℕ → ℕ → Bool
id_holds r a b t peers = leb b r && (leb r t && (ltb a 32 && member peers a))

-- the id of the place q
abbrev pub id_at_holds : State → List ℕ → ℕ → Bool
id_at_holds s ks q = id_holds (round_at ks q) (author_at ks q) s.bottom.0 s.top.0 (record_of s.rounds (round_at ks q)).peers

-- one law for each way out
module _ (r a b t peers : ℕ) where
  pub id_below : r < b → false ≡ id_holds r a b t peers
  unfolding id_holds
  id_below l = sym (and_no _ (lt-leb b r l))

  pub id_above : b ≤ r → t < r → false ≡ id_holds r a b t peers
  unfolding id_holds
  id_above l m = sym (and_yes (le-leb b r l) (and_no _ (lt-leb r t m)))

  pub id-author : b ≤ r → r ≤ t → 31 < a → false ≡ id_holds r a b t peers
  unfolding id_holds
  id-author l m k = sym (and_yes (le-leb b r l) (and_yes (le-leb r t m) (and_no _ (le-ltb a 32 (omega arith)))))

  pub id-peer : b ≤ r → r ≤ t → a ≤ 31 → (p : Bool) → p ≡ member peers a → p ≡ id_holds r a b t peers
  unfolding id_holds
  id-peer l m k p e = e ∙ sym (and_yes (le-leb b r l) (and_yes (le-leb r t m) (and_yes (lt-ltb a 32 (omega arith)) refl)))
