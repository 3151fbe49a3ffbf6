-- The records that a commit hands out stand within its buffer, and the lines read there are those of the call.
use Rattle.std.specs.Prelude.{ℕ, zero, suc, ◌+◌, ◌-◌, ◌^◌, ◌<◌, ◌≤◌, ◌≡◌, refl, Bool, true, false, ◌||◌, List, [], ◌∷◌, ◌++◌, map, eqb, length, take, drop}
use Rattle.std.proofs.Common.{sym, ap, ◌∙◌, subst, append_assoc, arith, length-append, take_at, drop-drop}
use Rattle.std.proofs.Math.Option.{Option, none, some}
use Rattle.std.proofs.Math.Seq.{drop-append-add}
use Rattle.laws.specs.Lists.{joined}
use Rattle.laws.specs.Bytes.{be, be-length, value, value-be-fits, written-length}
use Rattle.spec.specs.Store.{Store}
use Rattle.spec.specs.Ids.{Id}
use Rattle.spec.specs.Rules.{counts_as_started}
use Rattle.spec.specs.Chain.{Refusal, Out, bad, good, EnqueuedAnchor, anchors_of}
use Rattle.spec.specs.History.{in_order, Finished, commit_all}
use Rattle.spec.specs.Calls as calls
use Rattle.spec.specs.Calls.{Call, start, reset_all, round, name, resolve, certify, gap_question, commit, outlook, remove, drop as drop_to, Outcome, call, perform, unstarted, do_commit, commit_end, is_start}
use Rattle.spec.specs.Demand.{read_id, read_ids, read_records, finished, wrote}
use Rattle.spec.specs.Records.{Event, passed, bytes_of, number_at_lem, every-commit}
use Rattle.spec.proofs.Records.{record_size_lem, commit_buffer}
use Rattle.lines.specs.Lines.{line_of, lines_of, refusal_lines, field, points_at, record_length, next_at, line_at, lines_at, said_anchors, said_lines, HoldsFrom, Holds}

-- ---- reading

ids_read : (n : ℕ) (bs : List ℕ) → length (read_ids n bs) ≡ n
unfolding read_ids
ids_read zero bs = refl
ids_read (suc n) bs = ap suc (ids_read n (drop 37 bs))

-- records that are read one from behind the other, and by their offsets
read_lines : (s : Store) (n : ℕ) (v : List ℕ) (p : ℕ) → map line_of (read_records s n (drop p v)) ≡ lines_at n v p
unfolding read_records lines_at line_at next_at points_at read_id
read_lines s zero v p = refl
read_lines s (suc n) v p =
    rw (drop-drop 4 p v, drop-drop 79 p v, ids_read (field v (p + 79) 4) (drop 83 (drop p v)), drop-drop (record_length (field v (p + 79) 4)) p v)
    (ap (λ x. line_at v p ∷ x) (read_lines s n v (p + record_length (field v (p + 79) 4))))

unfoldable pub is_commit : Call → Bool
is_commit c = elim c [ start b ↦ false | reset_all ↦ false | round r peers ↦ false | name i ↦ false | resolve i t ↦ false | certify i ↦ false | gap_question ↦ false | commit i l b ↦ true | outlook i b ↦ false | remove r from b ↦ false | drop_to r ↦ false ]

-- the lines of a call with the kind byte k, 6 exactly for a commit, are those that are read of its answer
pub said_is : (s : Store) (c : Call) (o : Outcome) (k : ℕ) → eqb k 6 ≡ is_commit c → lines_of s c o ≡ said_lines k o.answer o.buffer
unfolding lines_of said_lines said_anchors wrote is_commit lines_at
said_is s c o k e = ap (λ x. x ++ refusal_lines o.answer) (by c e)
  where
    none_said : eqb k 6 ≡ false → [] ≡ lines_at (said_anchors k o.answer) o.buffer 0
    none_said h = rw h refl

    by : (c : Call) → eqb k 6 ≡ is_commit c → map line_of (wrote s c o) ≡ lines_at (said_anchors k o.answer) o.buffer 0
    by (start b) h = none_said h
    by reset_all h = none_said h
    by (round r peers) h = none_said h
    by (name i) h = none_said h
    by (resolve i t) h = none_said h
    by (certify i) h = none_said h
    by gap_question h = none_said h
    by (commit i l b) h = rw h (read_lines s (finished o.answer) o.buffer 0)
    by (outlook i b) h = none_said h
    by (remove r from b) h = none_said h
    by (drop_to r) h = none_said h

-- ---- the records stand within the buffer

-- a commit keeps its buffer's length
buffer_length : (s : Store) (ls b : List ℕ) (at n : ℕ) (es : List EnqueuedAnchor) → length (commit_all s ls b at n es).buffer ≡ length b
buffer_length = every-commit (λ s ls b at n es f evs. length f.buffer ≡ length b) (λ s ls b at n. refl) (λ s ls b at n e es r h. refl) (λ s ls b at n e es a f evs h i. i ∙ written-length b at _)

-- the number of points of a record that stands behind xs
points_read : (e : Event) (xs rest : List ℕ) → length (in_order e.from e.enq.anchor e.list) < 256 ^ 4 → points_at (xs ++ (bytes_of e ++ rest)) (length xs) ≡ length (in_order e.from e.enq.anchor e.list)
unfolding points_at
points_read e xs rest few =
    ap (λ (l : List ℕ). value 0 (take 4 l)) (drop-append-add xs (bytes_of e ++ rest) 79 ∙ number_at_lem e.from e.list e.enq rest)
    ∙ (ap (value 0) (take_at (be 4 _) _ 4 (be-length 4 _)) ∙ value-be-fits 4 _ few)

-- records one after another
all_hold : (evs : List Event) (xs rest : List ℕ) → length (xs ++ (joined bytes_of evs ++ rest)) < 256 ^ 4 → HoldsFrom (length evs) (xs ++ (joined bytes_of evs ++ rest)) (length xs)
unfolding HoldsFrom joined next_at
all_hold [] xs rest l = tt
all_hold (e ∷ evs) xs rest l = rw (append_assoc (bytes_of e) (joined bytes_of evs) rest) (rw goes (within, shifted (all_hold evs (xs ++ bytes_of e) rest small)))
  where
    after : List ℕ
    after = joined bytes_of evs ++ rest

    size : length (bytes_of e) ≡ record_length (length (in_order e.from e.enq.anchor e.list))
    size = record_size_lem e.from e.list e.enq

    all : length (xs ++ (bytes_of e ++ after)) ≡ length xs + (length (bytes_of e) + length after)
    all = length-append xs (bytes_of e ++ after) ∙ ap (λ n. length xs + n) (length-append (bytes_of e) after)

    few : length (in_order e.from e.enq.anchor e.list) < 256 ^ 4
    few = let l2 = subst (λ y. length (xs ++ y) < 256 ^ 4) (append_assoc (bytes_of e) (joined bytes_of evs) rest) l in omega (arith, all, size, l2)

    goes : length xs + record_length (points_at (xs ++ (bytes_of e ++ after)) (length xs)) ≡ length (xs ++ bytes_of e)
    goes = ap (λ n. length xs + record_length n) (points_read e xs after few) ∙ (ap (λ n. length xs + n) (sym size) ∙ sym (length-append xs (bytes_of e)))

    within : length (xs ++ bytes_of e) ≤ length (xs ++ (bytes_of e ++ after))
    within = omega (arith, all, length-append xs (bytes_of e))

    small : length ((xs ++ bytes_of e) ++ after) < 256 ^ 4
    small = subst (λ y. length y < 256 ^ 4) (ap (λ y. xs ++ y) (append_assoc (bytes_of e) (joined bytes_of evs) rest) ∙ sym (append_assoc xs (bytes_of e) after)) l

    shifted : HoldsFrom (length evs) ((xs ++ bytes_of e) ++ after) (length (xs ++ bytes_of e)) → HoldsFrom (length evs) (xs ++ (bytes_of e ++ after)) (length (xs ++ bytes_of e))
    shifted = subst (λ y. HoldsFrom (length evs) y (length (xs ++ bytes_of e))) (append_assoc xs (bytes_of e) after)

commit-holds : (s : Store) (ls b : List ℕ) (es : List EnqueuedAnchor) → length b < 256 ^ 4 → Holds (commit_all s ls b 0 0 es).anchors (commit_all s ls b 0 0 es).buffer
unfolding Holds
commit-holds s ls b es l =
    let (rest, buf, count) = commit_buffer s ls b 0 0 es (omega arith) in
    let evs = passed s ls (length b - 0) es in
    let k : length (commit_all s ls b 0 0 es).buffer < 256 ^ 4 = omega (arith, buffer_length s ls b 0 0 es) in
    subst (λ n. HoldsFrom n (commit_all s ls b 0 0 es).buffer 0) (sym (count ∙ zero-plus _)) (subst (λ y. HoldsFrom (length evs) y 0) (sym buf) (all_hold evs [] rest (subst (λ y. length y < 256 ^ 4) buf k)))
  where
    zero-plus : (n : ℕ) → 0 + n ≡ n
    zero-plus n = omega arith

end_holds : (f : Finished) → Holds f.anchors f.buffer → Holds (finished (commit_end f).answer) (commit_end f).buffer
unfolding commit_end finished
end_holds f h = by f.stopped refl
  where
    by : (o : Option Refusal) → f.stopped ≡ o → Holds (finished (commit_end f).answer) (commit_end f).buffer
    by none e = rw e h
    by (some r) e = rw e h

-- what a commit hands out stands within its buffer
pub call-holds : (s : Store) (i : Id) (ls b : List ℕ) → length b < 256 ^ 4 → Holds (finished (call s (commit i ls b)).answer) (call s (commit i ls b)).buffer
unfolding call perform do_commit is_start finished Holds HoldsFrom
call-holds s i ls b l = by (counts_as_started s || false)
  where
    walked : (o : Out (List EnqueuedAnchor)) → Outcome
    walked o = elim o [ bad r ↦ record { answer = calls.refused r 0; store = s; buffer = b } | good es ↦ commit_end (commit_all s ls b 0 0 es) ]

    at : (o : Out (List EnqueuedAnchor)) → Holds (finished (walked o).answer) (walked o).buffer
    at (bad r) = tt
    at (good es) = end_holds (commit_all s ls b 0 0 es) (commit-holds s ls b es l)

    done : Bool → Outcome
    done t = elim t [ true ↦ perform s (commit i ls b) | false ↦ unstarted s (commit i ls b) ]

    by : (t : Bool) → Holds (finished (done t).answer) (done t).buffer
    by true = at (anchors_of s i)
    by false = tt
