-- The stats of the peers as bytes (01: "Remove's answer", "per peer, rising by number").
use Rattle.std.specs.Prelude.{ℕ, ◌+◌, ◌*◌, ◌%◌, ◌^◌, ◌≤◌, ◌<◌, ◌≡◌, List, [], ◌∷◌, ◌++◌, Bool, length, get_or}
use Rattle.std.proofs.Math.Path.{refl, ap}
use Rattle.std.proofs.Common.{sym, subst, ◌∙◌, add-one, eq-eqb, ne_eqb}
use Rattle.std.proofs.Math.Bool.{true, false}
use Rattle.std.proofs.Math.Option.{Option}
use Rattle.std.specs.Int.Bits.{bit_or}
use Rattle.std.specs.Int.Count.{ones}
use Rattle.laws.specs.Bytes.{be, be-length}
use Rattle.laws.specs.Lists.{joined, up_to}
use Rattle.laws.specs.Scan.{those}
use Rattle.spec.specs.Inspect.{Counters, Stats, counter_list, score, stats_bytes, is_some}
use Rattle.stats.specs.Counters.{counters_of}
use Rattle.stats.specs.PeerStats.{stats_of, no_stats}
use Rattle.stats.specs.declared.peer_stats.MempoolPeerStats.{MempoolPeerStats}
use Rattle.answer_bytes.specs.Sent.{Room, Sent, sent_none, sent_then}
use Rattle.inspector_references.specs.Sets.{union_of, union_yes, union_no, union_ones, one_shifted}
use Rattle.inspector_events.specs.Told.{Open, upto_split, open_left, open_rest, open_first, open_all}
use Rattle.inspector_events.specs.Passing.{upto_front}

-- what the cells hold of peer a
abbrev pub peer_of : List MempoolPeerStats → ℕ → Option Stats
peer_of l a = stats_of (get_or l a (no_stats (record { 0 = 0 })))

-- the set of the peers below k that have stats, and that of all
abbrev pub with_stats_to : List MempoolPeerStats → ℕ → ℕ
with_stats_to l k = union_of (λ a. is_some (peer_of l a)) (λ a. 2 ^ a) k

unfoldable pub with_stats : List MempoolPeerStats → ℕ
with_stats l = with_stats_to l 32

-- the number of peers that have stats, and those of each
unfoldable pub peers_bytes : (ℕ → Option Stats) → List ℕ
peers_bytes f = be 1 (length (those 32 (λ a. is_some (f a)))) ++ up_to 32 (λ a. stats_bytes a (f a))

-- ---- one list of bytes after another

module _ (w : Bool) (b : List ℕ) (at : ℕ) (f : ℕ → List ℕ) where
  pub lists-none : Sent w b at (up_to 0 f) at b
  unfolding up_to
  lists-none = sent_none w b at

  module _ (k e : ℕ) (b₁ : List ℕ) (s : Sent w b at (up_to k f) e b₁) where
    pub lists-more : (r : ℕ) (b₂ : List ℕ) → Sent w b₁ e (f k) r b₂ → Sent w b at (up_to (k + 1) f) r b₂
    unfolding up_to
    lists-more r b₂ t = rw (add-one k) (sent_then w b at (up_to k f) (f k) e r b₁ b₂ s t)

    pub lists_end : (n : ℕ) → k ≡ n → Sent w b at (up_to n f) e b₁
    lists_end n h = subst (λ i. Sent w b at (up_to i f) e b₁) h s

    pub lists_open : (n : ℕ) → k < n → Open w b at (up_to n f) → Open w b₁ e (f k)
    lists_open n l o =
        let (zs, q) = upto_split f k n l in
        open_left w b₁ e (f k) zs (open_rest w b at (up_to k f) (f k ++ zs) e b₁ s (subst (Open w b at) q o))

-- ---- counters

-- a list, element by element
joined-each : {A : Type 0} (enc : A → List ℕ) (z : A) (l : List A) → up_to (length l) (λ i. enc (get_or l i z)) ≡ joined enc l
unfolding up_to joined
joined-each enc z [] = refl
joined-each enc z (x ∷ xs) = upto_front (length xs) (λ i. enc (get_or (x ∷ xs) i z)) ∙ ap (λ l. enc x ++ l) (joined-each enc z xs)

module _ (c : Counters) (xs : List ℕ) (e : xs ≡ counter_list c) where
  counters_are : up_to 9 (λ i. be 2 (get_or xs i 0)) ≡ joined (be 2) (counter_list c)
  unfolding counter_list
  counters_are = ap (λ l. up_to 9 (λ i. be 2 (get_or l i 0))) e ∙ joined-each (be 2) 0 (counter_list c)

  pub counters_open : (w : Bool) (b : List ℕ) (at : ℕ) → Open w b at (joined (be 2) (counter_list c)) → Open w b at (up_to 9 (λ i. be 2 (get_or xs i 0)))
  counters_open w b at = subst (Open w b at) (sym counters_are)

  pub counters_sent : (w : Bool) (b : List ℕ) (at r : ℕ) (b' : List ℕ) → Sent w b at (up_to 9 (λ i. be 2 (get_or xs i 0))) r b' → Sent w b at (joined (be 2) (counter_list c)) r b'
  counters_sent w b at r b' = subst (λ l. Sent w b at l r b') counters_are

-- ---- a peer

module _ (w : Bool) (b : List ℕ) (at a : ℕ) (t : MempoolPeerStats) where
  -- without stats
  pub peer-none : t.filled_rounds ≡ 0 → Sent w b at (stats_bytes a (stats_of t)) at b
  unfolding stats_of stats_bytes
  peer-none e = rw (eq-eqb t.filled_rounds 0 e) (sent_none w b at)

  module _ (d : t.filled_rounds ≡ 0 → ⊥) where
    -- its bytes, part by part
    abbrev counts : List ℕ
    counts = joined (be 2) (counter_list (counters_of t.cumulative))

    abbrev rest₃ : List ℕ
    rest₃ = counts ++ be 4 (score (counters_of t.cumulative))

    abbrev rest₂ : List ℕ
    rest₂ = be 4 t.last_round.0 ++ rest₃

    abbrev rest₁ : List ℕ
    rest₁ = be 4 t.first_round.0 ++ rest₂

    parts : stats_bytes a (stats_of t) ≡ be 1 a ++ rest₁
    unfolding stats_of stats_bytes
    parts = rw (ne_eqb t.filled_rounds 0 d) refl

    module _ (o : Open w b at (stats_bytes a (stats_of t))) where
      whole : Open w b at (be 1 a ++ rest₁)
      whole = subst (Open w b at) parts o

      pub peer-number : Room w b at 1 × (at ≤ 1_099_511_627_776)
      peer-number = open_first w b at (be 1 a) rest₁ 1 (be-length 1 a) whole

      module _ (a₁ : ℕ) (b₁ : List ℕ) (s₁ : Sent w b at (be 1 a) a₁ b₁) where
        o₁ : Open w b₁ a₁ rest₁
        o₁ = open_rest w b at (be 1 a) rest₁ a₁ b₁ s₁ whole

        pub peer-first : Room w b₁ a₁ 4 × (a₁ ≤ 1_099_511_627_776)
        peer-first = open_first w b₁ a₁ (be 4 t.first_round.0) rest₂ 4 (be-length 4 _) o₁

        module _ (a₂ : ℕ) (b₂ : List ℕ) (s₂ : Sent w b₁ a₁ (be 4 t.first_round.0) a₂ b₂) where
          o₂ : Open w b₂ a₂ rest₂
          o₂ = open_rest w b₁ a₁ (be 4 t.first_round.0) rest₂ a₂ b₂ s₂ o₁

          pub peer_last : Room w b₂ a₂ 4 × (a₂ ≤ 1_099_511_627_776)
          peer_last = open_first w b₂ a₂ (be 4 t.last_round.0) rest₃ 4 (be-length 4 _) o₂

          module _ (a₃ : ℕ) (b₃ : List ℕ) (s₃ : Sent w b₂ a₂ (be 4 t.last_round.0) a₃ b₃) where
            o₃ : Open w b₃ a₃ rest₃
            o₃ = open_rest w b₂ a₂ (be 4 t.last_round.0) rest₃ a₃ b₃ s₃ o₂

            pub peer_counters : Open w b₃ a₃ counts
            peer_counters = open_left w b₃ a₃ counts (be 4 (score (counters_of t.cumulative))) o₃

            module _ (a₄ : ℕ) (b₄ : List ℕ) (s₄ : Sent w b₃ a₃ counts a₄ b₄) where
              pub peer-score : Room w b₄ a₄ 4 × (a₄ ≤ 1_099_511_627_776)
              peer-score = open_all w b₄ a₄ (be 4 (score (counters_of t.cumulative))) 4 (be-length 4 _) (open_rest w b₃ a₃ counts (be 4 (score (counters_of t.cumulative))) a₄ b₄ s₄ o₃)

              pub peer_sent : (x r : ℕ) (b₅ : List ℕ) → x ≡ score (counters_of t.cumulative) → Sent w b₄ a₄ (be 4 x) r b₅ → Sent w b at (stats_bytes a (stats_of t)) r b₅
              peer_sent x r b₅ h s₅ =
                  subst (λ l. Sent w b at l r b₅) (sym parts)
                  (sent_then w b at (be 1 a) rest₁ a₁ r b₁ b₅ s₁ (sent_then w b₁ a₁ (be 4 t.first_round.0) rest₂ a₂ r b₂ b₅ s₂ (sent_then w b₂ a₂ (be 4 t.last_round.0) rest₃ a₃ r b₃ b₅ s₃
                  (sent_then w b₃ a₃ counts (be 4 (score (counters_of t.cumulative))) a₄ r b₄ b₅ s₄ (subst (λ n. Sent w b₄ a₄ (be 4 n) r b₅) h s₅)))))

-- ---- all peers

-- a peer that the loop takes in, or passes over
module _ (l : List MempoolPeerStats) (k g r : ℕ) (h : g ≡ with_stats_to l k) where
  pub with_yes : (x : ℕ) → ((get_or l k (no_stats (record { 0 = 0 }))).filled_rounds ≡ 0 → ⊥) → x ≡ 1 * 2 ^ k % 2 ^ 32 → k < 32 → r ≡ bit_or g x → r ≡ with_stats_to l (k + 1)
  unfolding stats_of is_some
  with_yes x d e m q = union_yes (λ a. is_some (peer_of l a)) (λ a. 2 ^ a) k g r h true (sym (rw (ne_eqb _ 0 d) refl)) x refl (e ∙ one_shifted 32 k m) q

  pub with_no : (get_or l k (no_stats (record { 0 = 0 }))).filled_rounds ≡ 0 → r ≡ g → r ≡ with_stats_to l (k + 1)
  unfolding stats_of is_some
  with_no d q = union_no (λ a. is_some (peer_of l a)) (λ a. 2 ^ a) k g r h false (sym (rw (eq-eqb _ 0 d) refl)) refl q

-- their number is that of the ones
pub with_ones : (l : List MempoolPeerStats) (s n : ℕ) → s ≡ with_stats l → n ≡ ones s → n ≡ length (those 32 (λ a. is_some (peer_of l a)))
unfolding with_stats
with_ones l s n e h = h ∙ (ap ones e ∙ union_ones 32 (λ a. is_some (peer_of l a)))

module _ (w : Bool) (b : List ℕ) (at : ℕ) (f : ℕ → Option Stats) (n : ℕ) (h : n ≡ length (those 32 (λ a. is_some (f a)))) where
  -- their number first
  pub peers_first : Open w b at (peers_bytes f) → Room w b at 1 × (at ≤ 1_099_511_627_776)
  unfolding peers_bytes
  peers_first o = open_first w b at (be 1 _) (up_to 32 (λ a. stats_bytes a (f a))) 1 (be-length 1 _) o

  module _ (e : ℕ) (b₁ : List ℕ) (s : Sent w b at (be 1 n) e b₁) where
    first_sent : Sent w b at (be 1 (length (those 32 (λ a. is_some (f a))))) e b₁
    first_sent = subst (λ x. Sent w b at (be 1 x) e b₁) h s

    pub peers_open : Open w b at (peers_bytes f) → Open w b₁ e (up_to 32 (λ a. stats_bytes a (f a)))
    unfolding peers_bytes
    peers_open = open_rest w b at (be 1 _) (up_to 32 (λ a. stats_bytes a (f a))) e b₁ first_sent

    pub peers_sent : (r : ℕ) (b₂ : List ℕ) → Sent w b₁ e (up_to 32 (λ a. stats_bytes a (f a))) r b₂ → Sent w b at (peers_bytes f) r b₂
    unfolding peers_bytes
    peers_sent r b₂ = sent_then w b at (be 1 _) (up_to 32 (λ a. stats_bytes a (f a))) e r b₁ b₂ first_sent
