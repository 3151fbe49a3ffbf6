-- The words of an id that a function is given are below 2 ^ 64.
use Rattle.std.specs.Prelude.{ℕ, zero, suc, ◌^◌, ◌<◌, List}
use Rattle.std.proofs.Common.{arith}
use Rattle.std.specs.Int.{w64}
use mir.Val.{Val}
use denote.Plain.{UInt}
use Rattle.std.specs.Borrow.{Array}
use denote.Laws.{Is}
use denote.Struct.Declared.{row}
use Rattle.models.specs.contracts.parts.PointId.{the_type}
use Rattle.models.specs.declared.parts.PointId.{PointId}
use Rattle.models.specs.Digest.{Fit, each_fit}
use Rattle.dag_round_points.specs.Model.{id_words}

-- the array itself
array_fit : (n : ℕ) (xs : List ℕ) (vs : List Val) → Is (Array (UInt w64) n) xs vs → Fit xs
array_fit n xs vs e = each_fit xs e.0 e.1.1

-- the words of an id, from its parts
words_fit_lem : (i : PointId) → i.round.0 < 2 ^ 32 → i.author < 2 ^ 32 → Fit i.digest.0 → Fit (id_words i)
unfolding id_words
words_fit_lem i r a d zero = omega (arith, r)
words_fit_lem i r a d (suc zero) = omega (arith, a)
words_fit_lem i r a d (suc (suc zero)) = d 0
words_fit_lem i r a d (suc (suc (suc zero))) = d 1
words_fit_lem i r a d (suc (suc (suc (suc zero)))) = d 2
words_fit_lem i r a d (suc (suc (suc (suc (suc zero))))) = d 3
words_fit_lem i r a d (suc (suc (suc (suc (suc (suc zero)))))) = omega arith
words_fit_lem i r a d (suc (suc (suc (suc (suc (suc (suc zero))))))) = omega arith
words_fit_lem i r a d (suc (suc (suc (suc (suc (suc (suc (suc p)))))))) = omega arith

-- the words of an id, from what owning it tells
pub id_fit : (i : PointId) (vs : List Val) → Is (row the_type) i vs → Fit (id_words i)
id_fit i vs g = words_fit_lem i g.1.1.0.1.1.0.1 g.1.1.1.0.1 (array_fit 4 i.digest.0 _ g.1.1.1.1.0.1.1.0)
