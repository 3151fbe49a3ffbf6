-- What is told of the points of a history is what document 02 says (N7).
use Rattle.std.specs.Prelude.{ℕ, ◌+◌, ◌-◌, ◌≡◌, ◌≢◌, true, false, cond, eqb, get_or}
use Rattle.std.proofs.Math.Path.{sym, ap, ap₂}
use Rattle.std.proofs.Common.{◌∙◌, arith}
use mathlib.Core.List.{List, ◌++◌}
use borrow.Author.Tests.{eq-eqb, ne_eqb}
use Rattle.laws.specs.Test.{same_or}
use Rattle.spec.specs.Ids.{id_bytes}
use Rattle.spec.specs.Store.{Point, Store, id_at}
use Rattle.spec.specs.History.{in_history, behind, includes_word, witness_word, word_for, link_bytes}
use Rattle.spec.specs.Behind.{Behind, behind-own, word-own}
use Rattle.spec.proofs.Behind.{behind_is, word-round}
use Rattle.spec.proofs.Extension.{fits_in}
use Rattle.models.specs.Digest.{Fit}
use Rattle.models.specs.Tables.{Used}
use Rattle.commit_state.specs.View.{point_at}
use Rattle.commit_state.specs.declared.state.State.{State}
use Rattle.tables_test.specs.View.{view}
use Rattle.tables_test.specs.Refines.{Started}
use Rattle.answer_bytes.specs.Bytes.{place_id}
use Rattle.back_history.specs.RefinesNeeded.{named_used, used_named, used_point, used_round, used_small}
use Rattle.back_history.specs.Refines.{well}
use Rattle.spec.proofs.Order.{history_named}
use Rattle.back_behind.specs.Refines.{sources_of, source_own, source_behind}
use Rattle.output_record.specs.Links.{told_for, word_of, link_of, told-some, word_some}

module _ (s : State) (ks ls cs os : List ℕ) (fk : Fit ks) (fl : Fit ls) (t : Started s ks ls cs os) (a : ℕ) (used : Used os s.count a) where
  abbrev v : Store
  v = view s ks ls cs os

  -- what is noted
  abbrev by : List ℕ
  by = sources_of s ks ls cs os a

  -- the id of a used place
  id_is : (q : ℕ) → Used os s.count q → id_at v q ≡ place_id ks q
  unfolding point_at
  id_is q u = ap (λ (p : Point). p.id) (used_point s ks ls cs os fk fl t q u)

  -- the bytes, from the place that is told and the word
  parts_are : (q : ℕ) → Used os s.count (behind v a q) → told_for by q ≡ behind v a q → word_of ks by q ≡ word_for v a q → link_of ks by q ≡ link_bytes v a q
  unfolding link_of link_bytes
  parts_are q u told word = ap₂ ◌++◌ (ap id_bytes (ap (place_id ks) told ∙ sym (id_is (behind v a q) u))) word

  -- the anchor's own
  own : (q : ℕ) → Used os s.count q → q ≡ a → link_of ks by q ≡ link_bytes v a q
  unfolding told_for word_of
  own q u e =
      let none = eq-eqb (get_or by q 0) 0 (source_own s ks ls cs os fk fl t a used q (used_small s ks ls cs os fk fl t q u) e) in
      let self = behind-own v a q e in
      parts_are q (rw self u) (rw none (sym self)) (rw none (sym (word-own v a q e)))

  -- any other point's
  other : (q : ℕ) → Used os s.count q → in_history v a q ≡ true → q ≢ a → link_of ks by q ≡ link_bytes v a q
  other q u h n = parts_are q told_used (told-some ks by q (behind v a q) some is_place) word
    where
      there : (v.pt a).named ≡ true
      there = used_named s ks ls cs os fk fl t a used

      is : Behind v a q (behind v a q)
      is = behind_is v (well s ks ls cs os fk fl t) a there (fits_in v (well s ks ls cs os fk fl t) a there) q h n

      told_used : Used os s.count (behind v a q)
      told_used = named_used s ks ls cs os fk fl t (behind v a q) (history_named v (well s ks ls cs os fk fl t) a there (behind v a q) is.inside)

      noted : get_or by q 0 ≡ behind v a q + 1
      noted = source_behind s ks ls cs os fk fl t a used q (used_small s ks ls cs os fk fl t q u) h n

      some : eqb (get_or by q 0) 0 ≡ false
      some = ne_eqb (get_or by q 0) 0 (λ z. omega (arith, z, noted))

      is_place : get_or by q 0 - 1 ≡ behind v a q
      is_place = omega (arith, noted)

      word : word_of ks by q ≡ word_for v a q
      word =
          word_some ks by q (behind v a q) some is_place
          ∙ sym (word-round v a q n is.link ∙ (λ i. cond (eqb (used_round s ks ls cs os fk fl t q u i + 1) (used_round s ks ls cs os fk fl t (behind v a q) told_used i)) includes_word witness_word))

  pub link_is : (q : ℕ) → Used os s.count q → in_history v a q ≡ true → link_of ks by q ≡ link_bytes v a q
  link_is q u h = same_or q a (own q u) (other q u h)
