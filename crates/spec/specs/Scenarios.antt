-- Lists of calls played on the definitions, and tables of what they give.
use Rattle.std.specs.Prelude.{ℕ, zero, suc, ◌≡◌, refl, Bool, true, false, ◌&&◌, eqb}
use Rattle.std.proofs.Common.{ap₂, eqb-true}
use mathlib.Core.List.{List, [], ◌∷◌, Memᴰ}
use Rattle.std.proofs.lemmas.Bool.{false≢true}
use Rattle.std.proofs.Math.Option.{Option, none}
use Rattle.laws.specs.Test.{and_l, and_r}
use Rattle.laws.specs.Lists.{all, all_elim}
use Rattle.spec.specs.Ids
use Rattle.spec.specs.Store
use Rattle.spec.specs.Paths
use Rattle.spec.specs.Rules
use Rattle.spec.specs.Chain
use Rattle.spec.specs.History
use Rattle.spec.specs.Picks
use Rattle.spec.specs.Inspect
use Rattle.spec.specs.Calls
use Rattle.laws.specs.Scan
use Rattle.laws.specs.Lists
use Rattle.laws.specs.Sort
use Rattle.laws.specs.Bytes
use Rattle.laws.specs.Peers
use Rattle.spec.specs.Ids.{Id, Ref}
use Rattle.spec.specs.Store.{Resolution, Store, Conf, other, no_round, no_memory, free}
use Rattle.spec.specs.Paths.{height}
use Rattle.spec.specs.History.{limit, prev_anchor}
use Rattle.spec.specs.Inspect.{score}
use Rattle.spec.specs.Demand.{after}
use Rattle.spec.specs.Calls.{Answer, done, flag, anchors, refused, number_of, Call, start, round, call, begun}

-- a row of a table: its number, what the definitions give, what 01 says
pub record Row : Type 0 where
  pub case : ℕ
  pub given : List ℕ
  pub expected : List ℕ

-- ---- short ways to write calls

-- genesis 10, H as given, deduplicate rounds 5
abbrev pub conf : ℕ → Conf
conf h = record { genesis = 10; history_rounds = h; deduplicate_rounds = 5 }

-- tables of n places that no call wrote
abbrev pub blank : ℕ → Store
blank n = record {
  phase = other;
  places = n;
  pt = λ q. free;
  heights = λ q. 0;
  bottom = 0;
  top = 0;
  rounds = λ r. no_round;
  conf = conf 2;
  progress = record { last_proof = none; last_anchor = none; full_bottom = 0; first_executable = 0; gap = none };
  memory = no_memory;
}

-- a start at round b with the peers 0 and 1
abbrev pub from : ℕ → ℕ → Bool → Option ℕ → Call
from h b gap used = start (record { conf = conf h; bottom = b; peers = 3; after_gap = gap; used = used })

-- the point of peer a at round r with digest d
abbrev pub id : ℕ → ℕ → ℕ → Id
id r a d = record { round = r; author = a; digest = d }

abbrev pub ref : ℕ → ℕ → Ref
ref a d = record { peer = a; digest = d }

-- a valid point with these includes; its top proof is by 0 in round 10
abbrev pub valid : Bool → Bool → List Ref → Resolution
valid p t is = record { status = 1; proof = p; trigger = t; cause = false; top_proof = id 10 0 0; evidence = 0; includes = is; witness = []; payload_len = 0; payload_bytes = 0 }

-- the rounds from r on, n of them
abbrev pub rounds : ℕ → ℕ → List Call
rounds r zero = []
rounds r (suc n) = round r 3 ∷ rounds (suc r) n

-- the tables are computed: `unfolding computed` opens every definition that they read
unfoldable pub computed : ℕ
unfolding Ids.id_bytes Ids.same_id Ids.by_round Ids.rises Ids.falls Ids.links_of Ids.fits Store.resolved Store.links_to Store.is_named Store.find Store.look_at Store.look Store.under Store.word Store.with_points Store.with_numbers Paths.reach Paths.height_via Paths.height Paths.certified Paths.proved Rules.is_peer Rules.same_digest Rules.version Rules.peers_ascend Rules.refs_ok Rules.well_formed Rules.dangling Rules.used_ok Rules.conf_ok Rules.places_ok Rules.rounds_ok Rules.id_ok Rules.links_ok Rules.cert_ok Rules.place_ok Rules.is_started Rules.is_reset Rules.counts_as_started Rules.was_reset Chain.refuse Chain.usable_in_walk Chain.is_committable Chain.checked_as Chain.checked_by Chain.checked Chain.ready_valid_point Chain.enqueue Chain.to_anchor Chain.to_previous Chain.at_proof Chain.at_used Chain.visit Chain.walk Chain.or_zero Chain.unlinked Chain.check_oldest Chain.chain_from Chain.chain Chain.trigger_conflict Chain.filtered Chain.place_of Chain.anchors_of History.limit History.hands History.pass History.sweep History.marks History.needed History.in_history History.history History.linked_in History.down_from History.each_once History.lists_ok History.round_out History.drawn History.in_order History.after_lists History.first_fault History.faults History.rounds_missing History.any_uncertified History.tested History.gap_pending History.test_anchor History.is_executable History.gap_asked History.is_first_executable History.prev_anchor History.summed History.sum_bytes History.links_by History.linkers History.behind History.word_for History.link_bytes History.tail_bytes History.record_bytes History.set_committed History.gap_after History.use_proof History.dequeued History.commit_all History.outlook_bytes History.outlook_all Picks.is_left Picks.is_least Picks.pick Picks.picks Inspect.places_in Inspect.is_found Inspect.is_valid Inspect.is_proved Inspect.is_trans_invalid Inspect.is_invalid Inspect.is_ill_formed Inspect.is_trusted Inspect.refers_to Inspect.included_by Inspect.witnessed_by Inspect.must_reference Inspect.entry_of Inspect.round_data Inspect.holds Inspect.larger Inspect.greatest Inspect.due Inspect.reported Inspect.proofs Inspect.authored_then Inspect.authored_now Inspect.is_nil Inspect.not_referenced Inspect.counted Inspect.add Inspect.merge Inspect.up_from Inspect.last_non_executable Inspect.inspected Inspect.inspected_rounds Inspect.memory_after Inspect.shown Inspect.since Inspect.total Inspect.stats_of Inspect.band Inspect.weight Inspect.counter_list Inspect.score_from Inspect.score Inspect.only_if Inspect.singles Inspect.equivocations Inspect.no_inclusions Inspect.over Inspect.events Inspect.stats_bytes Inspect.event_bytes Inspect.is_some Inspect.remove_bytes Calls.number_of Calls.conflict_round Calls.finish Calls.start_ok Calls.full_bottom_at Calls.begun Calls.memory_kept Calls.do_start Calls.cleared Calls.add_round Calls.do_round Calls.at_id Calls.new_point Calls.name_at Calls.into_free Calls.do_name Calls.with_path_heights Calls.resolved_as Calls.resolve_at Calls.resolving Calls.do_resolve Calls.set_top Calls.certify_at Calls.do_certify Calls.do_gap_question Calls.commit_end Calls.do_commit Calls.do_outlook Calls.drained Calls.new_bottom Calls.beyond Calls.removing Calls.do_remove Calls.do_drop Calls.buffer_of Calls.perform Calls.is_start Calls.call Scan.any Scan.every Scan.first_from Scan.first Scan.lowest Scan.those Scan.best Lists.has Lists.keep Lists.count Lists.joined Lists.weigh Lists.up_to Sort.insert Sort.sort Bytes.be Bytes.number Bytes.value Bytes.written Peers.member after
computed = 0

-- an answer as numbers: 0 done, 1 yes, 2 no, 3 with the anchors, 4 with the refusal's number and the finished anchors
unfoldable pub numbers : Answer → List ℕ
numbers done = 0 ∷ []
numbers (flag true) = 1 ∷ []
numbers (flag false) = 2 ∷ []
numbers (anchors n) = 3 ∷ n ∷ []
numbers (refused r n) = 4 ∷ number_of r ∷ n ∷ []

-- two lists of numbers compared
unfoldable pub same : List ℕ → List ℕ → Bool
same [] [] = true
same [] (y ∷ ys) = false
same (x ∷ xs) [] = false
same (x ∷ xs) (y ∷ ys) = eqb x y && same xs ys

pub same-eq : (xs ys : List ℕ) → same xs ys ≡ true → xs ≡ ys
unfolding same
same-eq [] [] h = refl
same-eq [] (y ∷ ys) h = absurd (false≢true h)
same-eq (x ∷ xs) [] h = absurd (false≢true h)
same-eq (x ∷ xs) (y ∷ ys) h = ap₂ ◌∷◌ (eqb-true x y (and_l _ (same xs ys) h)) (same-eq xs ys (and_r (eqb x y) _ h))

-- every row of the table agrees: a test that is computed ..
unfoldable pub agree : List Row → Bool
agree rs = all (λ (r : Row). same r.given r.expected) rs

-- .. and says so of each row
pub agree_elim : (rs : List Row) → agree rs ≡ true → (r : Row) → Memᴰ r rs → r.given ≡ r.expected
unfolding agree
agree_elim rs h r m = same-eq r.given r.expected (all_elim (λ (r : Row). same r.given r.expected) rs h r m)
