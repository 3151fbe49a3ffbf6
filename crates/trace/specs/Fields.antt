-- The fields of a record as what its call takes.
use Rattle.std.specs.Prelude.{ℕ, zero, suc, ◌+◌, ◌*◌, ◌/◌, ◌%◌, ◌≤◌, ◌≡◌, List, [], ◌∷◌, Bool, true, false, not, cond, eqb, length, get_or}
use Rattle.std.proofs.Math.Path.{refl}
use Rattle.std.proofs.Common.{sym}
use Rattle.std.proofs.Math.Option.{Option, none, some}
use native.Mathlib.Omega.{arith}
use borrow.Author.Tests.{ne_eqb}
use Rattle.spec.specs.Ids.{Ref}
use Rattle.spec.specs.Store.{Resolution}
use Rattle.spec.specs.Calls.{Call, StartArgs, start, reset_all, round, name, resolve, certify, gap_question, commit, outlook, remove, drop}
use Rattle.commit_state.specs.Back.{used_of}
use Rattle.commit_state.specs.Reads.{start_args_of}
use Rattle.commit_state.specs.declared.back.StartArgs as code
use Rattle.models.specs.declared.parts.PointId.{PointId}
use Rattle.models.specs.declared.info.PointInfo.{PointInfo}
use Rattle.trace.specs.Numbers.{number_at, id_at, point_id_at}
use Rattle.trace.specs.Head.{links_in, lists_in}
use Rattle.trace.specs.Kinds.{Kind}
use Rattle.trace.specs.Kinds as kind
use Rattle.std.specs.Prelude as rust
use Rattle.std.specs.Prelude.{None, Some}

-- "a flag is no only at 0"
abbrev pub flag_in : List ℕ → ℕ → Bool
flag_in f p = not (eqb (get_or f p 0) 0)

-- "used author (1; 255 for none)"
unfoldable pub used_in : ℕ → Option ℕ
used_in b = cond (eqb b 255) none (some b)

-- "Start: genesis, H, deduplicate rounds, bottom, its peers (4 each), after gap (flag), used author"
unfoldable pub start_in : List ℕ → StartArgs
start_in f = record {
  conf = record { genesis = number_at f 0 4; history_rounds = number_at f 4 4; deduplicate_rounds = number_at f 8 4 };
  bottom = number_at f 12 4;
  peers = number_at f 16 4;
  after_gap = flag_in f 20;
  used = used_in (get_or f 21 0);
}

-- "Remove: round, flag, `stats_since`", the last unread after flag 0
unfoldable pub since_in : List ℕ → Option ℕ
since_in f = cond (flag_in f 4) (some (number_at f 5 4)) none

-- a link: "peer 1, digest 32"
abbrev pub link_in : List ℕ → ℕ → Ref
link_in f p = record { peer = get_or f p 0; digest = number_at f (p + 1) 32 }

-- m links from p on
unfoldable pub links_from : List ℕ → ℕ → ℕ → List Ref
links_from f p zero = []
links_from f p (suc m) = link_in f p ∷ links_from f (p + 33) m

-- where N2's numbers begin, 4 bytes each: after the links
abbrev pub payload_from : List ℕ → ℕ
payload_from f = 82 + 33 * links_in f

-- "Resolve: id, status, marks (bits 0 to 2), top proof's id, evidence (4), number of includes, of witness (1 each), their links (33 each),
-- N2's numbers"
unfoldable pub resolution_in : List ℕ → Resolution
resolution_in f = record {
  status = get_or f 37 0;
  proof = eqb (get_or f 38 0 % 2) 1;
  trigger = eqb (get_or f 38 0 / 2 % 2) 1;
  cause = eqb (get_or f 38 0 / 4 % 2) 1;
  top_proof = id_at f 39;
  evidence = number_at f 76 4;
  includes = links_from f 82 (get_or f 80 0);
  witness = links_from f (82 + get_or f 80 0 * 33) (get_or f 81 0);
  payload_len = number_at f (payload_from f) 4;
  payload_bytes = number_at f (payload_from f + 4) 4;
}

-- the call of a kind and its fields, with the buffer that it is lent
unfoldable pub call_by : Kind → List ℕ → List ℕ → Call
call_by kind.Start f b = start (start_in f)
call_by kind.Round f b = round (number_at f 0 4) (number_at f 4 4)
call_by kind.Name f b = name (id_at f 0)
call_by kind.Resolve f b = resolve (id_at f 0) (resolution_in f)
call_by kind.Certify f b = certify (id_at f 0)
call_by kind.Commit f b = commit (id_at f 0) (lists_in f) b
call_by kind.Remove f b = remove (number_at f 0 4) (since_in f) b
call_by kind.Drop f b = drop (number_at f 0 4)
call_by kind.Gap f b = gap_question
call_by kind.Reset f b = reset_all
call_by kind.Outlook f b = outlook (id_at f 0) b
call_by kind.Broken f b = gap_question

-- ---- as the code has them

unfoldable pub used_author_in : ℕ → (rust.Option ℕ)
used_author_in b = cond (eqb b 255) None (Some b)

unfoldable pub start_args_in : List ℕ → code.StartArgs
start_args_in f = record {
  genesis = record { 0 = number_at f 0 4 };
  commit_history_rounds = number_at f 4 4;
  deduplicate_rounds = number_at f 8 4;
  bottom = record { 0 = number_at f 12 4 };
  peers = number_at f 16 4;
  after_gap = flag_in f 20;
  used = used_author_in (get_or f 21 0);
}

unfoldable pub info_in : List ℕ → PointInfo
info_in f = record {
  status = get_or f 37 0;
  proof = eqb (get_or f 38 0 % 2) 1;
  trigger = eqb (get_or f 38 0 / 2 % 2) 1;
  cause = eqb (get_or f 38 0 / 4 % 2) 1;
  top_proof = point_id_at f 39;
  evidence = number_at f 76 4;
  includes = get_or f 80 0;
  witness = get_or f 81 0;
  payload_len = number_at f (payload_from f) 4;
  payload_bytes = number_at f (payload_from f + 4) 4;
}

-- ---- laws

-- by cases
pub used_none : (b : ℕ) → b ≡ 255 → None ≡ used_author_in b
unfolding used_author_in
used_none b e = rw e refl

pub used_some : (b : ℕ) → (b ≡ 255 → ⊥) → Some b ≡ used_author_in b
unfolding used_author_in
used_some b n = rw (ne_eqb b 255 n) refl

-- read as 01's
used_read : (b : Bool) (n : ℕ) → used_of (cond b None (Some n)) ≡ cond b none (some n)
unfolding used_of
used_read true n = refl
used_read false n = refl

pub start_read : (f : List ℕ) → start_args_of (start_args_in f) ≡ start_in f
unfolding start_args_in start_in used_author_in used_in
start_read f = rw (used_read (eqb (get_or f 21 0) 255) (get_or f 21 0)) refl

module _ (f : List ℕ) where
  -- from their parts
  pub start_is : (g h d b q x y : ℕ) (u : (rust.Option ℕ)) → g ≡ number_at f 0 4 → h ≡ number_at f 4 4 → d ≡ number_at f 8 4 → b ≡ number_at f 12 4
      → q ≡ number_at f 16 4 → x ≡ get_or f 20 0 → y ≡ get_or f 21 0 → u ≡ used_author_in y
      → ◌≡◌ {A = code.StartArgs} (record { genesis = record { 0 = g }; commit_history_rounds = h; deduplicate_rounds = d; bottom = record { 0 = b }; peers = q; after_gap = not (eqb x 0); used = u }) (start_args_in f)
  unfolding start_args_in
  start_is g h d b q x y u i j k l m n o v = rw (v, i, j, k, l, m, n, o) refl

  -- both numbers are within the fields
  pub payload-fits : (i w : ℕ) → i ≡ get_or f 80 0 → w ≡ get_or f 81 0 → 90 + 33 * links_in f ≤ length f → 82 + 33 * (i + w) + 8 ≤ length f
  unfolding links_in
  payload-fits i w hi hw l = omega arith

  pub info_is : (s m e i w l b : ℕ) (t : PointId) → s ≡ get_or f 37 0 → m ≡ get_or f 38 0 → t ≡ point_id_at f 39 → e ≡ number_at f 76 4 → i ≡ get_or f 80 0 → w ≡ get_or f 81 0
      → l ≡ number_at f (82 + 33 * (i + w)) 4 → b ≡ number_at f (82 + 33 * (i + w) + 4) 4
      → ◌≡◌ {A = PointInfo} (record { status = s; proof = eqb (m % 2) 1; trigger = eqb (m / 2 % 2) 1; cause = eqb (m / 4 % 2) 1; top_proof = t; evidence = e; includes = i; witness = w; payload_len = l; payload_bytes = b }) (info_in f)
  unfolding info_in links_in
  info_is s m e i w l b t hs hm ht he hi hw hl hb = rw (hl, hb, hs, hm, ht, he, hi, hw) refl

  pub since_none : (x : ℕ) → x ≡ get_or f 4 0 → x ≡ 0 → none ≡ since_in f
  unfolding since_in
  since_none x e z = rw (sym e, z) refl

  pub since-some : (x s : ℕ) → x ≡ get_or f 4 0 → (x ≡ 0 → ⊥) → s ≡ number_at f 5 4 → some s ≡ since_in f
  unfolding since_in
  since-some x s e n h = rw (sym e, ne_eqb x 0 n, h) refl
