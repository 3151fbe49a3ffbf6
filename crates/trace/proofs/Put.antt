-- Theorems on the definitions of specs/Put.
use Rattle.std.specs.Prelude.{◌≡◌, refl, [], ◌∷◌, map}
use Rattle.laws.specs.Bytes.{number, value}
use Rattle.spec.specs.Chain.{refuse}
use Rattle.spec.specs.Calls.{number_of}
use Rattle.models.specs.Digest.{words}
use Rattle.trace.specs.Numbers.{number_at}
use Rattle.trace.specs.Head.{size_of, fits, fields_fit, whole_at, version_ok}
use Rattle.trace.specs.Kinds.{kind_of, kind_ok}
use Rattle.trace.specs.Codes.{read_at}
use Rattle.trace.specs.Put.{code_in}

-- cut short; a rest under 2; a gap question; an unknown version; an unknown kind; wrong length for its kind; that and an unknown version; that and
-- an unknown kind; cut short and an unknown version; a rest above 4,096
pub orders : map code_in (
    (0 ∷ []) ∷ (0 ∷ 0 ∷ 0 ∷ 1 ∷ 1 ∷ []) ∷ (0 ∷ 0 ∷ 0 ∷ 2 ∷ 1 ∷ 9 ∷ []) ∷ (0 ∷ 0 ∷ 0 ∷ 2 ∷ 2 ∷ 9 ∷ []) ∷ (0 ∷ 0 ∷ 0 ∷ 2 ∷ 1 ∷ 11 ∷ []) ∷ (0 ∷ 0 ∷ 0 ∷ 3 ∷ 1 ∷ 9 ∷ 0 ∷ [])
    ∷ (0 ∷ 0 ∷ 0 ∷ 3 ∷ 2 ∷ 9 ∷ 0 ∷ []) ∷ (0 ∷ 0 ∷ 0 ∷ 3 ∷ 1 ∷ 0 ∷ 0 ∷ []) ∷ (0 ∷ 0 ∷ 0 ∷ 4 ∷ 2 ∷ 9 ∷ []) ∷ (0 ∷ 0 ∷ 16 ∷ 1 ∷ 2 ∷ 9 ∷ []) ∷ []
    ) ≡ 26 ∷ 26 ∷ 0 ∷ 27 ∷ 27 ∷ 26 ∷ 27 ∷ 27 ∷ 26 ∷ 26 ∷ []
unfolding read_at refuse whole_at number_at words value number version_ok kind_ok fields_fit fits size_of kind_of number_of
orders = refl
