-- The rules of the tables (01: 'Forms of the Rust', first bullet; 'Refusals' 5 to 8, 11, 12 and start's ranges).
use Rattle.std.specs.Prelude.{ℕ, suc, ◌+◌, ◌-◌, List, [], ◌∷◌, Bool, true, false, not, ◌&&◌, eqb, leb, ltb, length}
use Rattle.std.proofs.Math.Option.{Option, none, some}
use Rattle.laws.specs.Test.{only}
use Rattle.laws.specs.Scan.{any, every, those}
use Rattle.laws.specs.Lists.{has}
use Rattle.laws.specs.Peers.{member}
use Rattle.spec.specs.Ids.{Id, Ref, Link, fits}
use Rattle.spec.specs.Store.{Resolution, Store, Phase, started, reset, other, Conf, id_at, round_at, resolved, links, retained}
use Rattle.spec.specs.Paths.{height}

-- 5: "author not a peer of its round"
unfoldable pub is_peer : Store → Id → Bool
is_peer s i = ltb i.author 32 && member (s.rounds i.round).peers i.author

-- 7: "digest named in this round"
unfoldable pub same_digest : Store → Id → ℕ → Bool
same_digest s i q = (s.pt q).named && (eqb (round_at s q) i.round && eqb (id_at s q).digest i.digest)

-- 8: the points of an author in a round; "at most 4 digests per author and round"
unfoldable pub version : Store → Id → ℕ → Bool
version s i q = (s.pt q).named && (eqb (round_at s q) i.round && eqb (id_at s q).author i.author)

abbrev pub versions : Store → Id → ℕ
versions s i = length (those s.places (version s i))

-- 11: "author above 31 in a link .. peers not rising"
unfoldable pub peers_ascend : List Ref → Bool
peers_ascend [] = true
peers_ascend (r ∷ rs) = ltb r.peer 32 && (first_above r.peer rs && peers_ascend rs)
  where
    first_above : ℕ → List Ref → Bool
    first_above k [] = true
    first_above k (q ∷ qs) = ltb k q.peer

-- 11: "over 32 links of a kind .. links below round 0", for the links that lead d rounds down
unfoldable pub refs_ok : ℕ → ℕ → List Ref → Bool
refs_ok d r rs = leb (length rs) 32 && (peers_ascend rs && only (ltb r d) (eqb (length rs) 0))

-- 11: "status not 1 to 5; over 32 links of a kind; author above 31 in a link or the top proof; peers not rising; status 4 or 5 with
-- links or evidence; links below round 0", for a point of round r
unfoldable pub well_formed : ℕ → Resolution → Bool
well_formed r t =
    (ltb 0 t.status && leb t.status 5)
    && (refs_ok 1 r t.includes
    && (refs_ok 2 r t.witness
    && (ltb t.top_proof.author 32
    && only (leb 4 t.status) (eqb (length t.includes) 0 && (eqb (length t.witness) 0 && eqb t.evidence 0)))))

-- 12: "link into a retained round, not named", for a link of a point of round r
unfoldable pub dangling : Store → ℕ → Link → Bool
dangling s r l = leb (s.bottom + l.dist) r && not (any s.places (λ q. (s.pt q).named && fits r (id_at s q) l))

-- ---- the rules

-- "contiguous rounds", "at most 512 rounds retained"; start's ranges; used authors
unfoldable pub used_ok : Option ℕ → Bool
used_ok none = true
used_ok (some a) = ltb a 32

abbrev pub last_round : ℕ
last_round = 4_000_000_000

unfoldable pub conf_ok : Conf → Bool
conf_ok c = ltb 0 c.history_rounds && (leb c.history_rounds 255 && leb c.deduplicate_rounds 65_535)

unfoldable pub places_ok : ℕ → Bool
places_ok n = ltb 0 n && leb n 4_096

unfoldable pub rounds_ok : Store → Bool
rounds_ok s =
    leb s.conf.genesis s.bottom && (leb s.bottom s.top && (leb s.top last_round && (ltb (s.top - s.bottom) 512
    && every (suc (s.top - s.bottom)) (λ k. used_ok (s.rounds (s.bottom + k)).used))))

-- "ids as naming tests them": 6, 5, 7, 8
unfoldable pub id_ok : Store → ℕ → Bool
id_ok s q =
    retained s (round_at s q) && (is_peer s (id_at s q)
    && (every s.places (λ p. only (same_digest s (id_at s q) p) (eqb p q)) && leb (versions s (id_at s q)) 4))

-- "links as 11 and 12 test them"
unfoldable pub links_ok : Store → ℕ → Bool
links_ok s q = only (resolved (s.pt q)) (well_formed (round_at s q) (s.pt q).resolution && not (has (dangling s (round_at s q)) (links (s.pt q))))

-- "heights and top bits as under cert.rs; committed only above height 0"
unfoldable pub cert_ok : Store → ℕ → Bool
cert_ok s q = eqb (s.heights q) (height s q) && only (s.pt q).flags.committed (ltb 0 (s.heights q))

unfoldable pub place_ok : Store → ℕ → Bool
place_ok s q = id_ok s q && (links_ok s q && cert_ok s q)

unfoldable pub is_started : Phase → Bool
is_started started = true
is_started reset = false
is_started other = false

unfoldable pub is_reset : Phase → Bool
is_reset started = false
is_reset reset = true
is_reset other = false

-- 01, 'Forms': "Tables that break one count as not started". Whether the tables count as started.
unfoldable pub counts_as_started : Store → Bool
counts_as_started s =
    is_started s.phase && (places_ok s.places && (conf_ok s.conf && (rounds_ok s
    && every s.places (λ q. only (s.pt q).named (place_ok s q)))))

-- 01, 'Forms': "a start after a reset keeps that memory": as a reset left the tables, with no place in use
unfoldable pub was_reset : Store → Bool
was_reset s = is_reset s.phase && every s.places (λ q. not (s.pt q).named)
