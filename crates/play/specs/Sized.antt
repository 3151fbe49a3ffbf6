-- What the fields of a record have, by its kind.
use Rattle.std.specs.Prelude.{ℕ, ◌+◌, ◌*◌, ◌<◌, ◌≤◌, ◌≡◌, List, Bool, true, length}
use Rattle.std.proofs.Math.Path.{refl}
use Rattle.std.proofs.Common.{sym, ap, ◌∙◌, arith}
use Rattle.trace.specs.Kinds.{Kind, Start, Round, Name, Resolve, Certify, Commit, Remove, Drop, Outlook, known, kind_of}
use Rattle.trace.specs.Head.{fits, size_of, links_in, part, code_at, head_at, whole_short, code_whole, whole_elim, head_good, head_bad, head_known, by_zero, fits-length, links-few}
use Rattle.trace.proofs.CodeAt.{record_cut}
use Rattle.trace.specs.declared.head.Record.{Record}

-- fields of a kind that is known have its length, at most 4,094
unfoldable pub Sized : Kind → List ℕ → Type 0
Sized k f = known k ≡ true → (fits k f ≡ true) × (length f ≤ 4094)

-- the fields of any record are so
pub sized_head : (w : Bool) (bs : List ℕ) (p : ℕ) (r : Record) → r ≡ head_at w bs p → Sized (kind_of r.kind) (part bs r.from r.end)
unfolding Sized
sized_head w bs p r e h = let t = head_known bs p w r e h in (t.1, t.5)

-- so many bytes as the kind k has: those of the kind byte j
module _ (k : Kind) (j : ℕ) (f : List ℕ) (s : Sized (kind_of j) f) (e : kind_of j ≡ k) (h : known k ≡ true) where
  fit : (fits k f ≡ true) × (length f ≤ 4094)
  unfolding Sized
  fit = let t = s (ap known e ∙ h) in (ap (λ (i : Kind). fits i f) (sym e) ∙ t.0, t.1)

  pub long : size_of k f ≤ length f
  long = omega (arith, fits-length k f fit.0)

module _ (k : ℕ) (f : List ℕ) (s : Sized (kind_of k) f) where
  pub start_long : k ≡ 1 → 22 ≤ length f
  unfolding size_of kind_of
  start_long e = long Start k f s (ap kind_of e) refl

  pub round_long : k ≡ 2 → 8 ≤ length f
  unfolding size_of kind_of
  round_long e = long Round k f s (ap kind_of e) refl

  pub name_long : k ≡ 3 → 37 ≤ length f
  unfolding size_of kind_of
  name_long e = long Name k f s (ap kind_of e) refl

  pub resolve_long : k ≡ 4 → 90 + 33 * links_in f ≤ length f
  unfolding size_of kind_of
  resolve_long e = long Resolve k f s (ap kind_of e) refl

  pub resolve-few : k ≡ 4 → links_in f ≤ 121
  unfolding kind_of
  resolve-few e = let t = fit Resolve k f s (ap kind_of e) refl in links-few f t.0 t.1

  pub certify_long : k ≡ 5 → 37 ≤ length f
  unfolding size_of kind_of
  certify_long e = long Certify k f s (ap kind_of e) refl

  pub commit_long : k ≡ 6 → 37 ≤ length f
  unfolding size_of kind_of
  commit_long e = omega (arith, long Commit k f s (ap kind_of e) refl)

  pub remove_long : k ≡ 7 → 9 ≤ length f
  unfolding size_of kind_of
  remove_long e = long Remove k f s (ap kind_of e) refl

  pub drop_long : k ≡ 8 → 4 ≤ length f
  unfolding size_of kind_of
  drop_long e = long Drop k f s (ap kind_of e) refl

  pub outlook_long : k ≡ 11 → 37 ≤ length f
  unfolding size_of kind_of
  outlook_long e = long Outlook k f s (ap kind_of e) refl

-- beyond the bytes there is none
pub head_beyond : (w : Bool) (bs : List ℕ) (p : ℕ) → length bs < p → ◌≡◌ {A = Record} (record { code = 26; kind = 0; from = p; end = p }) (head_at w bs p)
head_beyond w bs p l = record_cut w bs p (sym (whole_short bs p (omega arith)))

module _ (w : Bool) (bs : List ℕ) (p : ℕ) (r : Record) (e : r ≡ head_at w bs p) where
  -- a record ends at its offset or after it
  pub head_after : p ≤ r.end
  head_after =
      by_zero (code_at w bs p)
      (λ z. rw (e ∙ head_good bs p (code_at w bs p) z) (omega arith))
      (λ n. rw (e ∙ head_bad bs p (code_at w bs p) n) (omega arith))

  -- and after it, unless it is refused
  pub head_moves : code_at w bs p ≡ 0 → p < r.end
  head_moves z = rw (e ∙ head_good bs p (code_at w bs p) z) (omega (arith, whole_elim bs p (code_whole bs p w z)))
