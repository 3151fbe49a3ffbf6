-- The trigger's tests and the chain of anchors (01: back.rs 'Chain', commit/mod.rs, 'Refusals' 9, 13 to 16, 19).
use Rattle.std.specs.Prelude.{ℕ, zero, suc, ◌+◌, ◌-◌, max, List, [], ◌∷◌, Bool, true, false, not, ◌&&◌, ◌||◌, eqb, leb, ltb}
use Rattle.std.proofs.Math.Option.{Option, none, some}
use Rattle.spec.specs.Ids.{Id, prev}
use Rattle.spec.specs.Store.{Store, Look, resolved_at, named_at, never, id_at, round_at, status_at, resolved, look_at, look, previous}
use Rattle.spec.specs.Paths.{certified, proved}
use Rattle.spec.specs.Rules.{is_peer}

-- 01, 'Refusals': a number; 13, the history conflict, comes with its round
pub data Refusal : Type 0 where
  number : ℕ → Refusal
  conflict : ℕ → Refusal

-- a refusal, or what follows from acceptable input
pub data Out (A : Type 0) : Type 0 where
  bad : Refusal → Out A
  good : A → Out A

abbrev pub then : {A B : Type 0} → Out A → (A → Out B) → Out B
then (bad r) f = bad r
then (good a) f = f a

-- refused with n if the test holds
unfoldable pub refuse : {A : Type 0} → Bool → ℕ → Out A → Out A
refuse b n o = elim b [ true ↦ bad (number n) | false ↦ o ]

-- 01, back.rs: "*Usable*: in the walk, a valid point; in a history, a valid point, or a trans-invalid one not proved."
unfoldable pub usable_in_walk : Store → ℕ → Bool
usable_in_walk s q = eqb (status_at s q) 1

unfoldable pub is_committable : Store → ℕ → Bool
is_committable s q = eqb (status_at s q) 1 || (eqb (status_at s q) 2 && not (proved s q))

-- of a resolved point. 13: "a needed point that isn't usable and is certified .. its round is that point's"; 15: "status neither usable
-- nor certified"
unfoldable pub checked_as : (is_usable is_certified : Bool) → ℕ → ℕ → Out ℕ
checked_as true c r q = good q
checked_as false true r q = bad (conflict r)
checked_as false false r q = bad (number 15)

-- 02, N3: "Number 14 keeps the point that is named only. It refuses with 25, just after 14, a needed point that was never named."
unfoldable pub checked_by : Store → (Store → ℕ → Bool) → Look → Out ℕ
checked_by s usable (resolved_at q) = checked_as (usable s q) (certified s q) (round_at s q) q
checked_by s usable (named_at q) = bad (number 14)
checked_by s usable never = bad (number 25)

-- a needed point of a history, whose place is known
unfoldable pub checked : Store → (Store → ℕ → Bool) → ℕ → Out ℕ
checked s usable q = checked_by s usable (look_at s q)

-- the place of a point that the walk needs
unfoldable pub ready_valid_point : Store → Id → Out ℕ
ready_valid_point s i = checked_by s usable_in_walk (look s i)

-- an anchor of the chain: its place, its proof's, and the round of the anchor's top proof (`EnqueuedAnchor`)
pub record EnqueuedAnchor : Type 0 where
  pub anchor : ℕ
  pub proof : ℕ
  pub prev_proof_round : ℕ

-- how the walk goes on below: from the sought proof and the anchors found so far, oldest first
abbrev pub Onward : Type 0
Onward = Id → List EnqueuedAnchor → Out (List EnqueuedAnchor)

-- "Else the proof's previous point is the anchor and the anchor's top proof is sought next. Anchors come out oldest first."
unfoldable pub enqueue : Store → Onward → List EnqueuedAnchor → ℕ → ℕ → Out (List EnqueuedAnchor)
enqueue s below acc p a = below (s.pt a).resolution.top_proof (record { anchor = a; proof = p; prev_proof_round = (s.pt a).resolution.top_proof.round } ∷ acc)

-- "a proof at the lowest walked round, tested like the others, ends it unused"
unfoldable pub to_anchor : Store → ℕ → Bool → Onward → List EnqueuedAnchor → ℕ → ℕ → Out (List EnqueuedAnchor)
to_anchor s x lowest below acc p d = elim lowest [
  | true ↦ good acc
  | false ↦ then (ready_valid_point s (record { round = prev x; author = (id_at s p).author; digest = d })) (enqueue s below acc p)
]

-- 16: "trigger or proof without a previous point"
unfoldable pub to_previous : Store → ℕ → Bool → Onward → List EnqueuedAnchor → ℕ → Option ℕ → Out (List EnqueuedAnchor)
to_previous s x lowest below acc p none = bad (number 16)
to_previous s x lowest below acc p (some d) = to_anchor s x lowest below acc p d

-- 16: "not marked as proof"
unfoldable pub at_proof : Store → ℕ → Bool → Onward → List EnqueuedAnchor → ℕ → Out (List EnqueuedAnchor)
at_proof s x lowest below acc p = elim (s.pt p).resolution.proof [ true ↦ to_previous s x lowest below acc p (previous (s.pt p)) | false ↦ bad (number 16) ]

-- "a round with a used mark ends the walk if its author matches"; 16: "of another author than the used mark"
unfoldable pub at_used : Store → ℕ → Bool → Onward → List EnqueuedAnchor → Id → Option ℕ → Out (List EnqueuedAnchor)
at_used s x lowest below acc i none = then (ready_valid_point s i) (at_proof s x lowest below acc)
at_used s x lowest below acc i (some a) = elim (eqb a i.author) [ true ↦ good acc | false ↦ bad (number 16) ]

-- the round x of the walk: "Rounds above [the sought proof] are passed"; 16: "sought proof above the round walked"
unfoldable pub visit : Store → ℕ → Bool → Onward → Onward
visit s x lowest below i acc = elim (ltb i.round x) [
  | true ↦ below i acc
  | false ↦ elim (ltb x i.round) [ true ↦ bad (number 16) | false ↦ at_used s x lowest below acc i (s.rounds x).used ]
]

-- the rounds from low + k down to low
unfoldable pub walk : Store → ℕ → ℕ → Onward
walk s low zero = visit s low true (λ i acc. good acc)
walk s low (suc k) = visit s (low + suc k) false (walk s low k)

-- "down to the last committed proof's round, or the store's bottom if none or if that is higher"
unfoldable pub or_zero : Option ℕ → ℕ
or_zero none = 0
or_zero (some r) = r

abbrev pub lowest_walked : Store → ℕ
lowest_walked s = max (or_zero s.progress.last_proof) s.bottom

-- 19: "oldest link above the walk's lowest round"
unfoldable pub unlinked : ℕ → List EnqueuedAnchor → Bool
unlinked low [] = false
unlinked low (e ∷ es) = ltb low e.prev_proof_round

unfoldable pub check_oldest : ℕ → List EnqueuedAnchor → Out (List EnqueuedAnchor)
check_oldest low es = refuse (unlinked low es) 19 (good es)

-- "from the round below the trigger down"; "The sought proof is first the trigger's previous point."
unfoldable pub chain_from : Store → ℕ → Option ℕ → Out (List EnqueuedAnchor)
chain_from s t none = bad (number 16)
chain_from s t (some d) =
    let low = lowest_walked s in
    let x = prev (round_at s t) in
    then (walk s low (x - low) (record { round = x; author = (id_at s t).author; digest = d }) []) (check_oldest low)

-- "An empty walk tests nothing and yields no anchors."
abbrev pub empty_walk : Store → ℕ → Bool
empty_walk s t = leb (round_at s t) (lowest_walked s)

-- a valid trigger: `filter` turns away one without the mark, `commit` one of the genesis round
unfoldable pub chain : Store → ℕ → Out (List EnqueuedAnchor)
chain s t = elim (not (s.pt t).resolution.trigger || (eqb (round_at s t) s.conf.genesis || empty_walk s t)) [
  | true ↦ good []
  | false ↦ chain_from s t (previous (s.pt t))
]

-- "*History conflict*: .. a trigger that is trans-invalid and proved, or of status 3 to 5 and certified"
unfoldable pub trigger_conflict : Store → ℕ → Bool
trigger_conflict s t = elim (eqb (status_at s t) 2) [ true ↦ proved s t | false ↦ certified s t ]

-- 9: "trigger unresolved"; 13; 15: "status neither usable nor certified, the trigger's too"; `filter` turns away, with no anchors, a
-- trans-invalid trigger that is certified and not proved
unfoldable pub filtered : Store → ℕ → Out (List EnqueuedAnchor)
filtered s t =
    refuse (not (resolved (s.pt t))) 9 (elim (eqb (status_at s t) 1) [
      | true ↦ chain s t
      | false ↦ elim (trigger_conflict s t) [ true ↦ bad (conflict (round_at s t)) | false ↦ refuse (not (certified s t)) 15 (good []) ]
    ])

-- 9: "id not named"
unfoldable pub place_of : Store → Id → Out ℕ
place_of s i = elim (look s i) [ resolved_at q ↦ good q | named_at q ↦ good q | never ↦ bad (number 9) ]

-- the anchors that a trigger yields. 5: "author above 31"; 6: "a trigger below the bottom yields no anchors instead"; 5: "not a peer of
-- its round"
unfoldable pub anchors_of : Store → Id → Out (List EnqueuedAnchor)
anchors_of s i =
    refuse (leb 32 i.author) 5 (elim (ltb i.round s.bottom) [
      | true ↦ good []
      | false ↦ refuse (ltb s.top i.round) 6 (refuse (not (is_peer s i)) 5 (then (place_of s i) (filtered s)))
    ])
