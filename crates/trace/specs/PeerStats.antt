-- What a remove answers of a peer, read from bytes.
use Rattle.std.specs.Prelude.{ℕ, ◌+◌, ◌≡◌, List, get_or}
use Rattle.std.proofs.Math.Path.{refl}
use Rattle.spec.specs.Inspect.{Counters, Stats}
use Rattle.stats.specs.Counters.{counters_of}
use Rattle.stats.specs.declared.MempoolPeerCounters.{MempoolPeerCounters}
use Rattle.trace.specs.Numbers.{number_at}
use Rattle.trace.specs.declared.peer_stats.PeerStats.{PeerStats}

-- "per peer, rising by number: number (1), first and last round (4 each), nine 16-bit counters in the order of `MempoolPeerCounters`,
-- score (4)"
pub record Peer : Type 0 where
  pub number : ℕ
  pub stats : Stats
  pub score : ℕ

-- in the 18 bytes from p on, two each
unfoldable pub counters_in : List ℕ → ℕ → Counters
counters_in b p = record {
  was_leader = number_at b p 2;
  skipped_rounds = number_at b (p + 2) 2;
  valid_points = number_at b (p + 4) 2;
  points_proved = number_at b (p + 6) 2;
  equivocated = number_at b (p + 8) 2;
  trans_invalid = number_at b (p + 10) 2;
  invalid = number_at b (p + 12) 2;
  ill_formed = number_at b (p + 14) 2;
  references_skipped = number_at b (p + 16) 2;
}

-- in the 31 bytes from p on: 1, 4, 4, 18, 4
unfoldable pub peer_in : List ℕ → ℕ → Peer
peer_in b p = record {
  number = get_or b p 0;
  stats = record { first = number_at b (p + 1) 4; last = number_at b (p + 5) 4; counters = counters_in b (p + 9) };
  score = number_at b (p + 27) 4;
}

-- as the code has it
unfoldable pub peer_of : PeerStats → Peer
peer_of t = record {
  number = t.peer;
  stats = record { first = t.first_round.0; last = t.last_round.0; counters = counters_of t.cumulative };
  score = t.score;
}

-- ---- laws

-- from their parts
module _ (b : List ℕ) (p : ℕ) where
  pub counters_are : (c : MempoolPeerCounters) → c.was_leader ≡ number_at b p 2 → c.skipped_rounds ≡ number_at b (p + 2) 2 → c.valid_points ≡ number_at b (p + 4) 2 → c.points_proved ≡ number_at b (p + 6) 2
      → c.equivocated ≡ number_at b (p + 8) 2 → c.trans_invalid_points ≡ number_at b (p + 10) 2 → c.invalid_points ≡ number_at b (p + 12) 2 → c.ill_formed_points ≡ number_at b (p + 14) 2
      → c.references_skipped ≡ number_at b (p + 16) 2 → counters_of c ≡ counters_in b p
  unfolding counters_of counters_in
  counters_are c g h i j k l m n o = rw (g, h, i, j, k, l, m, n, o) refl

  pub peer_is : (t : PeerStats) → t.peer ≡ get_or b p 0 → t.first_round.0 ≡ number_at b (p + 1) 4 → t.last_round.0 ≡ number_at b (p + 5) 4
      → counters_of t.cumulative ≡ counters_in b (p + 9) → t.score ≡ number_at b (p + 27) 4 → peer_of t ≡ peer_in b p
  unfolding peer_of peer_in
  peer_is t i j k l m = rw (i, j, k, l, m) refl
