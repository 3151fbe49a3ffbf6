-- What writing a history asks of the tables and the place lists, and the steps over its rounds (02: N1).
use Prim.Native.Nat.{ℕ, zero, suc, ◌+◌, ◌*◌, ◌-◌, ◌<◌, ◌≤◌}
use Rattle.std.specs.Prelude.{◌≡◌, Bool, true, false, not, length, get_or, take}
use Rattle.std.proofs.Math.Path.{refl, ap}
use Rattle.std.proofs.Common.{sym, subst, ◌∙◌, add-one, zero-add, suc-add, length-append, drop-drop}
use mathlib.Core.List.{List, [], ◌∷◌, ◌++◌, map-append}
use native.Mathlib.Omega.{arith}
use Rattle.std.proofs.Math.Nat.{sub-zero}
use Rattle.std.proofs.Math.ListN.{drop}
use Rattle.laws.specs.Test.{cond_yes, cond_no, le_or}
use Rattle.laws.specs.Lists.{weigh, weigh-append, get_d_in}
use Rattle.laws.specs.Bytes.{written}
use Rattle.spec.specs.History.{down_from, each_once, lists_ok}
use Rattle.spec.proofs.OrderInRound.{each-length, each_below, lists_head}
use Rattle.models.specs.Tables.{Inside}
use Rattle.dag_round_keys.specs.Sorted.{Sorted}
use Rattle.back_history.specs.Model.{is_done}
use Rattle.dag_round_order.specs.Span.{span_of}
use Rattle.dag_round_order.specs.declared.span.Span.{Span}
use Rattle.back_order.specs.Linked.{Run, linked_by}
use Rattle.back_order.specs.Each.{part_at}
use Rattle.back_order.specs.Counts.{count_by, counts_by, run_of, count_by_lem}
use Rattle.back_order.specs.Drawn.{new_of, out_by, ranks_by, drawn_by, out_none, out_step, out_fewer, lists-below, drawn-below}
use Rattle.output_record.specs.Links.{links_of}
use Rattle.output_record.specs.Model.{points_of, Wrote, Room, wrote_none, wrote_is, wrote-more, wrote-all}

-- the rounds from r down to lo
abbrev pub rounds_by : ℕ → ℕ → List ℕ
rounds_by r lo = down_from r (r + 1 - lo)

-- how many bytes the lists of these rounds have
abbrev pub size_by : List ℕ → List ℕ → ℕ → List Bool → List ℕ → ℕ
size_by ks os n m rs = weigh (λ x. x) (counts_by ks os n m rs)

-- the history, by the lists that end at `end`
abbrev pub history_by : List ℕ → List ℕ → ℕ → List ℕ → List Bool → List ℕ → ℕ → ℕ → ℕ → List ℕ
history_by ks os n cs m l end r lo = drawn_by ks os n cs m (rounds_by r lo) (drop (end - size_by ks os n m (rounds_by r lo)) l)

-- the tables of n used places, a word each
pub record Ranking (ks os : List ℕ) (n : ℕ) (cs : List ℕ) : Type 0 where
  pub keys : length ks ≡ length os * 8
  pub used : n ≤ length os
  pub places : length os ≤ 4096
  pub inside : Inside os n (length os)
  pub sorted : Sorted ks os n
  pub words : length cs ≡ length os

-- and the lists of the rounds from r down to lo, which end at `end`, are right
pub record Listable (ks os : List ℕ) (n : ℕ) (cs : List ℕ) (m : List Bool) (l : List ℕ) (end r lo : ℕ) : Type 0 where
  pub tables : Ranking ks os n cs
  pub high : r ≤ 4000000000
  pub long : size_by ks os n m (rounds_by r lo) ≤ end
  pub within : end ≤ length l
  pub right : lists_ok (counts_by ks os n m (rounds_by r lo)) (drop (end - size_by ks os n m (rounds_by r lo)) l) ≡ true

-- the list of round r, which ends at `end`
abbrev pub list_by : List ℕ → List ℕ → ℕ → List Bool → List ℕ → ℕ → ℕ → List ℕ
list_by ks os n m l end r = take (count_by ks os n m r) (drop (end - count_by ks os n m r) l)

-- what comes out of it
abbrev pub round_by : List ℕ → List ℕ → ℕ → List ℕ → List Bool → List ℕ → ℕ → ℕ → List ℕ
round_by ks os n cs m l end r = out_by cs (ranks_by ks os n m r) (list_by ks os n m l end r)

-- it is right
pub record RoundListed (ks os : List ℕ) (n : ℕ) (cs : List ℕ) (m : List Bool) (l : List ℕ) (end r : ℕ) : Type 0 where
  pub tables : Ranking ks os n cs
  pub high : r ≤ 4000000000
  pub long : count_by ks os n m r ≤ end
  pub within : end ≤ length l
  pub right : each_once (count_by ks os n m r) (list_by ks os n m l end r) ≡ true

-- ---- the steps of the code

-- a place that is committed; one that is not
pub new_no : (cs : List ℕ) (q : ℕ) (b : Bool) → b ≡ is_done cs q → b ≡ true → new_of cs q ≡ []
unfolding new_of
new_no cs q b e t = cond_no _ _ _ (ap not (sym e ∙ t)) refl

pub new-yes : (cs : List ℕ) (q : ℕ) (b : Bool) → b ≡ is_done cs q → b ≡ false → new_of cs q ≡ q ∷ []
unfolding new_of
new-yes cs q b e f = cond_yes _ _ _ (ap not (sym e ∙ f)) refl

-- what the last j bytes give, of a list of n bytes from `from` on, in ranks of the places ps
abbrev pub last_by : List ℕ → List ℕ → List ℕ → ℕ → ℕ → ℕ → List ℕ
last_by cs ps l from n j = out_by cs ps (drop (n - j) (take n (drop from l)))

module _ (l : List ℕ) (from n : ℕ) (ok : each_once n (take n (drop from l)) ≡ true) where
  -- the list
  abbrev list : List ℕ
  list = take n (drop from l)

  -- it has n bytes
  list_length : length list ≡ n
  list_length = each-length n list ok

  -- each is a rank
  pub byte_small : (i v : ℕ) → i < n → v ≡ get_or l (from + i) 0 → v < n
  byte_small i v h is = subst (λ x. x < n) (part_at l from n i h ∙ sym is) (each_below n list ok (get_or list i 0) (get_d_in list i 0 (omega (arith, h, list_length))))

  module _ (cs ps : List ℕ) where
    abbrev last_out : ℕ → List ℕ
    last_out = last_by cs ps l from n

    -- none at first
    pub last_none : last_out 0 ≡ []
    last_none = ap (λ x. out_by cs ps (drop x list)) (sub-zero n ∙ sym list_length) ∙ out_none cs ps list

    -- all bytes
    pub last_all : (j : ℕ) → n ≤ j → last_out j ≡ out_by cs ps list
    last_all j h = ap (λ x. out_by cs ps (drop x list)) (none n j h)
      where
        none : (n j : ℕ) → n ≤ j → n - j ≡ 0
        none n j h = omega arith

    module _ (j v q : ℕ) (h : j < n) (byte : v ≡ get_or l (from + (n - 1 - j)) 0) (is : q ≡ get_or ps v 0) where
      -- one byte more
      pub last_more : last_out (j + 1) ≡ last_out j ++ new_of cs q
      last_more =
          ap (λ x. out_by cs ps (drop x list)) (here n j)
          ∙ (out_step cs ps list (n - 1 - j) (omega (arith, h, list_length))
          ∙ (ap (λ x. out_by cs ps (drop x list) ++ new_of cs (get_or ps (get_or list (n - 1 - j) 0) 0)) (next n j h)
          ∙ ap (λ x. last_out j ++ new_of cs x) place))
        where
          here : (n j : ℕ) → n - (j + 1) ≡ n - 1 - j
          here n j = omega arith

          next : (n j : ℕ) → j < n → suc (n - 1 - j) ≡ n - j
          next n j h = omega arith

          place : get_or ps (get_or list (n - 1 - j) 0) 0 ≡ q
          place = ap (λ x. get_or ps x 0) (part_at l from n (n - 1 - j) (omega arith) ∙ sym byte) ∙ sym is

      -- there is room for it
      pub last_room : (k end ids told size : ℕ) → end ≡ k + length (last_out j) → Room ids told k (length (out_by cs ps list)) size → Room ids told end (length (new_of cs q)) size
      last_room k end ids told size e r = let fewer = out_fewer cs ps list (n - (j + 1)) in let more = ap length last_more ∙ length-append (last_out j) (new_of cs q) in (omega (arith, e, r.0, fewer, more), omega (arith, e, r.1, fewer, more))

-- ---- one round

module _ (ks os : List ℕ) (n : ℕ) (cs : List ℕ) (m : List Bool) (l : List ℕ) (end r : ℕ) (h : RoundListed ks os n cs m l end r) (x : Span) (is : x ≡ span_of ks os n r) where
  -- its marked places
  abbrev linked : List ℕ
  linked = linked_by os m x.low (x.high - x.low)

  pub span_run : Run os x.low x.high
  span_run = run_of ks os n r x h.tables.used h.tables.places h.tables.inside h.tables.sorted is

  -- they are those of the round
  linked_ranks : linked ≡ ranks_by ks os n m r
  unfolding span_of
  linked_ranks = ap (λ (y : Span). linked_by os m y.low (y.high - y.low)) is

  module _ (c : ℕ) (e : c ≡ length linked) where
    pub counted : c ≡ count_by ks os n m r
    counted = count_by_lem ks os n m r c x is e

    pub counted_list : each_once c (take c (drop (end - c) l)) ≡ true
    counted_list = subst (λ z. each_once z (take z (drop (end - z) l)) ≡ true) (sym counted) h.right

    -- what comes out
    pub counted_out : out_by cs linked (take c (drop (end - c) l)) ≡ round_by ks os n cs m l end r
    counted_out =
        ap (λ y. out_by cs y (take c (drop (end - c) l))) linked_ranks
        ∙ ap (λ y. out_by cs (ranks_by ks os n m r) (take y (drop (end - y) l))) counted

-- ---- rounds rising

-- k rounds from lo on
abbrev pub up_by : ℕ → ℕ → List ℕ
up_by lo k = down_from (lo + k - 1) k

-- so many rounds were written, and the lists of the others end at `from`
abbrev pub Sofar : List ℕ → List ℕ → List ℕ → ℕ → List ℕ → List Bool → List ℕ → ℕ → ℕ → ℕ → ℕ → List ℕ → ℕ → ℕ → List ℕ → ℕ → Type 0
Sofar ks by os n cs m l end lo ids told b₀ k from b next = (from + size_by ks os n m (up_by lo k) ≡ end) × Wrote ks by ids told b₀ 0 (drawn_by ks os n cs m (up_by lo k) (drop from l)) b next

-- rounds downwards, in two parts
down_append : (r j k : ℕ) → down_from r (j + k) ≡ down_from r j ++ down_from (r - j) k
unfolding down_from
down_append r zero k = ap (down_from r) (zero-add k) ∙ ap (λ x. down_from x k) (sym (sub-zero r))
down_append r (suc j) k = ap (down_from r) (suc-add j k) ∙ ap (λ x. r ∷ x) (down_append (r - 1) j k ∙ ap (λ x. down_from (r - 1) j ++ down_from x k) (less r j))
  where
    less : (r j : ℕ) → r - 1 - j ≡ r - suc j
    less r j = omega arith

-- one round more
up_more : (lo k : ℕ) → up_by lo (k + 1) ≡ (lo + k) ∷ up_by lo k
unfolding down_from
up_more lo k = ap (λ x. down_from (lo + x - 1) x) (add-one k) ∙ ap (λ x. x ∷ down_from (x - 1) k) (same lo k)
  where
    same : (lo k : ℕ) → lo + suc k - 1 ≡ lo + k
    same lo k = omega arith

-- all rounds
up_all : (r lo : ℕ) → up_by lo (r + 1 - lo) ≡ rounds_by r lo
unfolding down_from
up_all r lo = le_or (r + 1) lo (λ h. ap (λ x. down_from (lo + x - 1) x) (none h) ∙ ap (down_from r) (sym (none h))) (λ h. ap (λ x. down_from x (r + 1 - lo)) (same h))
  where
    none : r + 1 ≤ lo → r + 1 - lo ≡ 0
    none h = omega arith

    same : lo < r + 1 → lo + (r + 1 - lo) - 1 ≡ r
    same h = omega arith

module _ (ks os : List ℕ) (n : ℕ) (cs : List ℕ) (m : List Bool) (l : List ℕ) (end r lo : ℕ) (h : Listable ks os n cs m l end r lo) where
  -- how many bytes the lists of these rounds have
  abbrev size : List ℕ → ℕ
  size = size_by ks os n m

  abbrev draw : List ℕ → List ℕ → List ℕ
  draw = drawn_by ks os n cs m

  module _ (by : List ℕ) (ids told : ℕ) (b₀ : List ℕ) where
    -- none at first
    pub sofar_none : Sofar ks by os n cs m l end lo ids told b₀ 0 end b₀ 0
    unfolding down_from weigh drawn_by
    sofar_none = (omega arith, wrote_none ks by ids told b₀ 0 [] b₀ 0 refl refl refl)

    -- all rounds
    pub sofar_all : (k from : ℕ) (b : List ℕ) (next : ℕ) → Sofar ks by os n cs m l end lo ids told b₀ k from b next → k ≡ r + 1 - lo
        → b ≡ written (written b₀ ids (points_of ks (history_by ks os n cs m l end r lo))) told (links_of ks by (history_by ks os n cs m l end r lo))
    sofar_all k from b next (e, w) is =
        wrote-all ks by ids told b₀ (history_by ks os n cs m l end r lo) b next (wrote_is ks by ids told b₀ 0 (draw (up_by lo k) (drop from l)) (history_by ks os n cs m l end r lo) b next (ap (λ x. draw x (drop from l)) rounds ∙ ap (λ x. draw (rounds_by r lo) (drop x l)) start) w)
      where
        rounds : up_by lo k ≡ rounds_by r lo
        rounds = ap (up_by lo) is ∙ up_all r lo

        start : from ≡ end - size (rounds_by r lo)
        start = omega (arith, e, ap size rounds)

  -- the next round
  module _ (k from x : ℕ) (t : k < r + 1 - lo) (is : x ≡ lo + k) (e : from + size (up_by lo k) ≡ end) where
    -- its count, and the rounds above
    abbrev c : ℕ
    c = count_by ks os n m x

    abbrev above : List ℕ
    above = down_from r (r - x)

    split : rounds_by r lo ≡ above ++ (x ∷ up_by lo k)
    unfolding down_from
    split = ap (down_from r) parts ∙ (down_append r (r - x) (suc k) ∙ (ap (λ y. above ++ down_from y (suc k)) here ∙ ap (λ y. above ++ (y ∷ up_by lo k)) (sym is)))
      where
        parts : r + 1 - lo ≡ r - x + suc k
        parts = omega (arith, t, is)

        here : r - (r - x) ≡ lo + k
        here = omega (arith, t, is)

    counts : counts_by ks os n m (rounds_by r lo) ≡ counts_by ks os n m above ++ (c ∷ counts_by ks os n m (up_by lo k))
    counts = ap (counts_by ks os n m) split ∙ map-append (count_by ks os n m) above (x ∷ up_by lo k)

    sizes : size (rounds_by r lo) ≡ size above + (c + size (up_by lo k))
    unfolding weigh
    sizes = ap (weigh (λ x. x)) counts ∙ weigh-append (λ x. x) (counts_by ks os n m above) (c ∷ counts_by ks os n m (up_by lo k))

    -- where its list begins
    begin : drop (size above) (drop (end - size (rounds_by r lo)) l) ≡ drop (from - c) l
    begin = drop-drop (size above) (end - size (rounds_by r lo)) l ∙ ap (λ y. drop y l) start
      where
        start : end - size (rounds_by r lo) + size above ≡ from - c
        start = omega (arith, sizes, h.long, e)

    fits : c ≤ from
    fits = omega (arith, sizes, h.long, e)

    -- its list is right
    pub round_listed : RoundListed ks os n cs m l from x
    round_listed = record {
      tables = h.tables;
      high = omega (arith, t, is, h.high);
      long = fits;
      within = omega (arith, e, h.within);
      right = ap (λ y. each_once c (take c y)) (sym begin) ∙ (lists_head c (counts_by ks os n m (up_by lo k)) _ (lists-below (counts_by ks os n m above) (c ∷ counts_by ks os n m (up_by lo k)) lists (ap (λ y. lists_ok y lists) (sym counts) ∙ h.right))).0;
    }
      where
        lists : List ℕ
        lists = drop (end - size (rounds_by r lo)) l

    -- its points come after those below
    drawn-round : draw (x ∷ up_by lo k) (drop (from - c) l) ≡ draw (up_by lo k) (drop from l) ++ round_by ks os n cs m l from x
    unfolding drawn_by
    drawn-round = ap (λ y. draw (up_by lo k) y ++ round_by ks os n cs m l from x) (drop-drop c (from - c) l ∙ ap (λ y. drop y l) back)
      where
        back : from - c + c ≡ from
        back = omega (arith, fits)

    -- there is room for them
    pub sofar_room : (next ids told room : ℕ) → next ≡ length (draw (up_by lo k) (drop from l)) → Room ids told 0 (length (history_by ks os n cs m l end r lo)) room → Room ids told next (length (round_by ks os n cs m l from x)) room
    sofar_room next ids told room f a = let parts = ap length drawn-round ∙ length-append (draw (up_by lo k) (drop from l)) (round_by ks os n cs m l from x) in (omega (arith, f, a.0, all, parts), omega (arith, f, a.1, all, parts))
      where
        all : length (draw (x ∷ up_by lo k) (drop (from - c) l)) ≤ length (history_by ks os n cs m l end r lo)
        all =
            let d : history_by ks os n cs m l end r lo ≡ draw (x ∷ up_by lo k) (drop (from - c) l) ++ draw above (drop (end - size (rounds_by r lo)) l) =
            ap (λ y. draw y (drop (end - size (rounds_by r lo)) l)) split
            ∙ (drawn-below ks os n cs m above (x ∷ up_by lo k) (drop (end - size (rounds_by r lo)) l) ∙ ap (λ y. draw (x ∷ up_by lo k) y ++ draw above (drop (end - size (rounds_by r lo)) l)) begin) in
            omega (arith, ap length d, length-append (draw (x ∷ up_by lo k) (drop (from - c) l)) (draw above (drop (end - size (rounds_by r lo)) l)))

    rising : up_by lo (k + 1) ≡ x ∷ up_by lo k
    rising = up_more lo k ∙ ap (λ y. y ∷ up_by lo k) (sym is)

    -- one round more
    pub sofar_more : (by : List ℕ) (ids told : ℕ) (b₀ b b' : List ℕ) (next next' from' : ℕ) → ids + (next + length (round_by ks os n cs m l from x)) * 37 ≤ told
        → Wrote ks by ids told b₀ 0 (draw (up_by lo k) (drop from l)) b next → from' ≡ from - c → Wrote ks by ids told b next (round_by ks os n cs m l from x) b' next' → Sofar ks by os n cs m l end lo ids told b₀ (k + 1) from' b' next'
    unfolding weigh
    sofar_more by ids told b₀ b b' next next' from' room w d v = (
      omega (arith, d, e, fits, ap size rising),
      wrote-more ks by ids told b₀ 0 (draw (up_by lo k) (drop from l)) (round_by ks os n cs m l from x) _ b b' next next' room w v (ap (λ y. draw y (drop from' l)) rising ∙ (ap (λ y. draw (x ∷ up_by lo k) (drop y l)) d ∙ drawn-round)),
    )
