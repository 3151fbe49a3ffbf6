-- The faults of one author's points at a round, as events (01: inspector.rs, `take_events`).
use Rattle.std.specs.Prelude.{ℕ, ◌+◌, ◌-◌, ◌≤◌, ◌<◌, ◌≡◌, List, [], ◌∷◌, ◌++◌, Bool, true, ltb, length}
use Rattle.std.proofs.Math.Path.{sym}
use Rattle.std.proofs.Common.{subst, ◌∙◌, arith, lt-ltb, le-ltb}
use Rattle.laws.specs.Lists.{joined}
use Rattle.laws.specs.Bytes.{be, be-length}
use Rattle.spec.specs.Ids.{Id, id_bytes}
use Rattle.spec.specs.Records.{id-length}
use Rattle.spec.specs.Inspect.{Event, single, equivocation, event_bytes}
use Rattle.models.specs.Tables.{place_at, digest_of}
use Rattle.answer_bytes.specs.Bytes.{place_id}
use Rattle.answer_bytes.specs.Sent.{Room, Sent, sent_then}
use Rattle.inspector_counters.specs.Tests.{passes}
use Rattle.inspector_counters.specs.Count.{passes_at, count_of}
use Rattle.inspector_counters.specs.declared.tests.PointTest.{PointTest}
use Rattle.inspector_counters.specs.declared.tests.PointTest.TheVariants.{Found}
use Rattle.inspector_events.specs.declared.emitted.Emitted.{Emitted}
use Rattle.inspector_events.specs.Told.{Told, Open, Ready, one_if, passing, passing-count, open_first, open_all, open_rest, ready_one, told-one, told_none}

-- of the points at the k positions from low on those of the author a that pass test w, as events of this kind with an id
abbrev pub singles_of : List ℕ → List ℕ → List ℕ → ℕ → ℕ → ℕ → PointTest → ℕ → List Event
singles_of ks cs os low k kind w a = passing k (λ j. place_at os (low + j)) (passes ks cs a w) (λ q. single kind (place_id ks q))

-- the digests of those that are found
abbrev pub digests_of : List ℕ → List ℕ → List ℕ → ℕ → ℕ → ℕ → List ℕ
digests_of ks cs os low k a = passing k (λ j. place_at os (low + j)) (passes ks cs a Found) (digest_of ks)

-- the author a made these versions at round r: an event if they are several
unfoldable pub fork_of : ℕ → ℕ → List ℕ → List Event
fork_of a r ds = one_if (ltb 1 (length ds)) (equivocation a r ds)

-- ---- the steps of the code

module _ (wr : Bool) (b : List ℕ) (e : Emitted) (kind : ℕ) (i : Id) where
  -- one event with an id: room for its kind, and for the id
  pub single-first : Ready event_bytes wr b e (single kind i ∷ []) → Room wr b e.at 1 × (e.at ≤ 1_099_511_627_776)
  unfolding event_bytes
  single-first h = open_first wr b e.at (be 1 kind) (id_bytes i) 1 (be-length 1 kind) (ready_one event_bytes wr b e (single kind i) h).0

  pub single_rest : (a : ℕ) (b₁ : List ℕ) → Sent wr b e.at (be 1 kind) a b₁ → Ready event_bytes wr b e (single kind i ∷ []) → Room wr b₁ a 37 × (a ≤ 1_099_511_627_776)
  unfolding event_bytes
  single_rest a b₁ s h = open_all wr b₁ a (id_bytes i) 37 (id-length i) (open_rest wr b e.at (be 1 kind) (id_bytes i) a b₁ s (ready_one event_bytes wr b e (single kind i) h).0)

  pub single-told : (a : ℕ) (r : Emitted) (b₁ b₂ : List ℕ) → Sent wr b e.at (be 1 kind) a b₁ → Sent wr b₁ a (id_bytes i) r.at b₂ → r.count ≡ e.count + 1 → Told event_bytes wr b e (single kind i ∷ []) r b₂
  unfolding event_bytes
  single-told a r b₁ b₂ s t h = told-one event_bytes wr b e (single kind i) r b₂ (sent_then wr b e.at (be 1 kind) (id_bytes i) a r.at b₁ b₂ s t) h

-- one digest
module _ (wr : Bool) (b : List ℕ) (e : Emitted) (d : ℕ) where
  pub digest_room : Ready (be 32) wr b e (d ∷ []) → Room wr b e.at 32 × (e.at ≤ 1_099_511_627_776)
  digest_room h = open_all wr b e.at (be 32 d) 32 (be-length 32 d) (ready_one (be 32) wr b e d h).0

-- an equivocation of n versions
module _ (wr : Bool) (b : List ℕ) (e : Emitted) (a r : ℕ) (ds : List ℕ) (n : ℕ) (is : n ≡ length ds) where
  -- fewer than two are none
  pub fork_none : n ≤ 1 → Told event_bytes wr b e (fork_of a r ds) e b
  unfolding fork_of one_if
  fork_none l = rw (le-ltb 1 (length ds) (omega (arith, l, is))) (told_none event_bytes wr b e)

  module _ (l : 1 < n) (h : Ready event_bytes wr b e (fork_of a r ds)) where
    several : ltb 1 (length ds) ≡ true
    several = lt-ltb 1 (length ds) (omega (arith, l, is))

    one : Ready event_bytes wr b e (equivocation a r ds ∷ [])
    unfolding fork_of one_if
    one = rw several at h

    pub fork_count : e.count < 1_099_511_627_776
    fork_count = (ready_one event_bytes wr b e (equivocation a r ds) one).1

    -- its bytes, part by part
    abbrev rest₂ : List ℕ
    rest₂ = be 4 (length ds) ++ joined (be 32) ds

    abbrev rest₁ : List ℕ
    rest₁ = be 4 r ++ rest₂

    abbrev rest : List ℕ
    rest = be 1 a ++ rest₁

    whole : Open wr b e.at (be 1 4 ++ rest)
    unfolding event_bytes
    whole = (ready_one event_bytes wr b e (equivocation a r ds) one).0

    pub fork_kind : Room wr b e.at 1 × (e.at ≤ 1_099_511_627_776)
    fork_kind = open_first wr b e.at (be 1 4) rest 1 (be-length 1 4) whole

    module _ (a₁ : ℕ) (b₁ : List ℕ) (s₁ : Sent wr b e.at (be 1 4) a₁ b₁) where
      o₁ : Open wr b₁ a₁ rest
      o₁ = open_rest wr b e.at (be 1 4) rest a₁ b₁ s₁ whole

      pub fork_author : Room wr b₁ a₁ 1 × (a₁ ≤ 1_099_511_627_776)
      fork_author = open_first wr b₁ a₁ (be 1 a) rest₁ 1 (be-length 1 a) o₁

      module _ (a₂ : ℕ) (b₂ : List ℕ) (s₂ : Sent wr b₁ a₁ (be 1 a) a₂ b₂) where
        o₂ : Open wr b₂ a₂ rest₁
        o₂ = open_rest wr b₁ a₁ (be 1 a) rest₁ a₂ b₂ s₂ o₁

        pub fork_round : Room wr b₂ a₂ 4 × (a₂ ≤ 1_099_511_627_776)
        fork_round = open_first wr b₂ a₂ (be 4 r) rest₂ 4 (be-length 4 r) o₂

        module _ (a₃ : ℕ) (b₃ : List ℕ) (s₃ : Sent wr b₂ a₂ (be 4 r) a₃ b₃) where
          o₃ : Open wr b₃ a₃ rest₂
          o₃ = open_rest wr b₂ a₂ (be 4 r) rest₂ a₃ b₃ s₃ o₂

          pub fork_number : Room wr b₃ a₃ 4 × (a₃ ≤ 1_099_511_627_776)
          fork_number = open_first wr b₃ a₃ (be 4 (length ds)) (joined (be 32) ds) 4 (be-length 4 (length ds)) o₃

          module _ (a₄ : ℕ) (b₄ : List ℕ) (s₄ : Sent wr b₃ a₃ (be 4 n) a₄ b₄) where
            t₄ : Sent wr b₃ a₃ (be 4 (length ds)) a₄ b₄
            t₄ = subst (λ x. Sent wr b₃ a₃ (be 4 x) a₄ b₄) is s₄

            pub fork_digests : (m : Emitted) → m.at ≡ a₄ → m.count ≡ 0 → n ≤ 65_535 → Ready (be 32) wr b₄ m ds
            fork_digests m g z k = record {
              bytes = subst (λ x. Open wr b₄ x (joined (be 32) ds)) (sym g) (open_rest wr b₃ a₃ (be 4 (length ds)) (joined (be 32) ds) a₄ b₄ t₄ o₃);
              few = omega (arith, z, k, is);
            }

            pub fork_told : (m x r' : Emitted) (b₅ : List ℕ) → m.at ≡ a₄ → Told (be 32) wr b₄ m ds x b₅ → r'.at ≡ x.at → r'.count ≡ e.count + 1 → Told event_bytes wr b e (fork_of a r ds) r' b₅
            unfolding fork_of one_if event_bytes
            fork_told m x r' b₅ g t f c =
                rw several
                (told-one event_bytes wr b e (equivocation a r ds) r' b₅
                (sent_then wr b e.at (be 1 4) rest a₁ r'.at b₁ b₅ s₁ (sent_then wr b₁ a₁ (be 1 a) rest₁ a₂ r'.at b₂ b₅ s₂ (sent_then wr b₂ a₂ (be 4 r) rest₂ a₃ r'.at b₃ b₅ s₃
                (sent_then wr b₃ a₃ (be 4 (length ds)) (joined (be 32) ds) a₄ r'.at b₄ b₅ t₄
                (subst (λ z. Sent wr b₄ z (joined (be 32) ds) r'.at b₅) g (subst (λ z. Sent wr b₄ m.at (joined (be 32) ds) z b₅) (sym f) t.sent)))))) c)

module _ (ks cs os : List ℕ) (low high : ℕ) where
  -- the digests are as many as the code counted
  pub digests-count : (a n : ℕ) → n ≡ count_of ks cs os low high a Found → n ≡ length (digests_of ks cs os low (high - low) a)
  unfolding count_of passes_at
  digests-count a n h = h ∙ sym (passing-count (high - low) (λ j. place_at os (low + j)) (passes ks cs a Found) (digest_of ks))

  pub singles-count : (kind : ℕ) (w : PointTest) (a : ℕ) → length (singles_of ks cs os low (high - low) kind w a) ≡ count_of ks cs os low high a w
  unfolding count_of passes_at
  singles-count kind w a = passing-count (high - low) (λ j. place_at os (low + j)) (passes ks cs a w) (λ q. single kind (place_id ks q))
