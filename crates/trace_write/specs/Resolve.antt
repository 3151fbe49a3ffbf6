-- A resolution as a record.
use Prim.Native.Nat.{ℕ, zero, suc, ◌+◌, ◌*◌, ◌^◌, ◌<◌, ◌≤◌}
use Rattle.std.specs.Prelude.{◌≡◌, Bool, not, eqb, get_or}
use Rattle.std.proofs.Math.Path.{refl, sym, ap, ap₂}
use Rattle.std.proofs.Common.{◌∙◌, subst, true≢false, add-zero, zero-add}
use mathlib.Core.List.{List, [], ◌∷◌, ◌++◌, append_assoc}
use Rattle.std.proofs.Math.Bool.{true, false, ◌&&◌}
use native.Mathlib.Omega.{arith}
use Rattle.std.proofs.Math.Dec.{leb}
use Rattle.std.proofs.Math.ListN.{length, length-append}
use borrow.Author.Tests.{le-ltb, lt-leb, le-leb, leb-true, eqb-true}
use mir.Val.{Val}
use denote.Laws.{Is}
use denote.Struct.Declared.{row}
use Rattle.laws.specs.Test.{by_test, both, and_l, and_r, and_no, and_no_r, and_yes, and-true, not_yes, cond_yes}
use Rattle.laws.specs.Lists.{all}
use Rattle.laws.specs.Bytes.{be, written}
use Rattle.spec.specs.Ids.{Id, Ref}
use Rattle.spec.specs.Store.{Resolution, bit}
use Rattle.spec.specs.Chain.{Out, refuse}
use Rattle.spec.specs.Walk.{refuse_back}
use Rattle.spec.specs.Calls.{Call, number_of, resolve}
use Rattle.models.specs.Digest.{Fit, digest_at}
use Rattle.models.specs.Info.{ref_at, refs_of, info_of}
use Rattle.models.specs.Parts.{id_of}
use Rattle.models.specs.contracts.info.PointInfo.{the_type}
use Rattle.models.specs.declared.info.PointInfo.{PointInfo}
use Rattle.trace.specs.Write.{Field, field, field_bytes, fits_field, id_then, link_fields, marks_byte, resolve_fields, fields_of, kind_byte, sayable, fields_in, record_bytes, put_record}
use Rattle.trace.proofs.ReadBack.{size, fields_length, fields_append}
use Rattle.trace_write.specs.Puts.{PutAs, Puts, Said}
use Rattle.trace_write.specs.Fields.{fit_none, fit_more, fit_append, put-more, put_last, put_fields}
use Rattle.trace_write.specs.Ids.{byte_fit, digest_small}

-- as many words are lent as the two numbers of links say
abbrev pub lent : PointInfo → List ℕ → Bool
lent t rs = eqb (length rs) ((t.includes + t.witness) * 5)

abbrev pub resolving : Id → PointInfo → List ℕ → Call
resolving i t rs = resolve i (info_of t rs)

-- links of another number than the one told have no record: 26; else "Writing a call's record .."
unfoldable pub put_resolve : List ℕ → Id → PointInfo → List ℕ → Out (List ℕ)
put_resolve b i t rs = refuse (not (lent t rs)) 26 (put_record b (resolving i t rs))

abbrev pub PutsResolve : List ℕ → Id → PointInfo → List ℕ → ℕ → ℕ → List ℕ → Type 0
PutsResolve b i t rs x n d = PutAs (put_resolve b i t rs) (length (record_bytes (kind_byte (resolving i t rs)) (fields_in (resolving i t rs)))) b x n d

-- the numbers that a function is given fit four bytes
pub record Small (t : PointInfo) : Type 0 where
  pub evidence : t.evidence < 2 ^ 32
  pub length : t.payload_len < 2 ^ 32
  pub bytes : t.payload_bytes < 2 ^ 32

pub info_small : (t : PointInfo) (vs : List Val) → Is (row the_type) t vs → Small t
info_small t vs g = record { evidence = g.1.1.1.1.1.1.1.0.1; length = g.1.1.1.1.1.1.1.1.1.1.0.1; bytes = g.1.1.1.1.1.1.1.1.1.1.1.0.1 }

-- ---- links

-- a peer that doesn't fit a byte is enough
links_unfit : (rs : List ℕ) (j m i : ℕ) → i < m → 255 < get_or rs ((j + i) * 5 + 0) 0 → false ≡ all fits_field (link_fields (refs_of rs j m))
unfolding link_fields refs_of all fits_field
links_unfit rs j zero i l h = absurd (omega arith)
links_unfit rs j (suc m) zero l h = sym (and_no _ (le-ltb _ 256 (subst (λ (x : ℕ). 255 < get_or rs (x * 5 + 0) 0) (add-zero j) h)))
links_unfit rs j (suc m) (suc i) l h = sym (and_no_r (fits_field (field 1 (get_or rs (j * 5 + 0) 0))) (and_no_r (fits_field (field 32 (digest_at rs (j * 5 + 1)))) (sym (links_unfit rs (j + 1) m i (omega arith) (subst (λ (x : ℕ). 255 < get_or rs (x * 5 + 0) 0) next h)))))
  where
    next : j + suc i ≡ j + 1 + i
    next = omega arith

pub refs_length : (rs : List ℕ) (j m : ℕ) → length (refs_of rs j m) ≡ m
unfolding refs_of
refs_length rs j zero = refl
refs_length rs j (suc m) = ap suc (refs_length rs (j + 1) m)

pub refs_append : (rs : List ℕ) (j m n : ℕ) → refs_of rs j (m + n) ≡ refs_of rs j m ++ refs_of rs (j + m) n
unfolding refs_of
refs_append rs j zero n = ap₂ (refs_of rs) (sym (add-zero j)) (zero-add n)
refs_append rs j (suc m) n = ap (refs_of rs j) (suc-first m n) ∙ ap (λ (l : List Ref). ref_at rs j ∷ l) (refs_append rs (j + 1) m n ∙ ap (λ (k : ℕ). refs_of rs (j + 1) m ++ refs_of rs k n) (next j m))
  where
    suc-first : (m n : ℕ) → suc m + n ≡ suc (m + n)
    suc-first m n = omega arith

    next : (j m : ℕ) → j + 1 + m ≡ j + suc m
    next j m = omega arith

pub links-append : (xs ys : List Ref) → link_fields (xs ++ ys) ≡ link_fields xs ++ link_fields ys
unfolding link_fields
links-append [] ys = refl
links-append (x ∷ xs) ys = ap (λ (l : List Field). field 1 x.peer ∷ field 32 x.digest ∷ l) (links-append xs ys)

pub links-size : (xs : List Ref) → length (field_bytes (link_fields xs)) ≡ length xs * 33
unfolding link_fields size
links-size [] = fields_length []
links-size (x ∷ xs) = fields_length (link_fields (x ∷ xs)) ∙ more (size (link_fields xs)) (length xs) (sym (fields_length (link_fields xs)) ∙ links-size xs)
  where
    more : (s n : ℕ) → s ≡ n * 33 → 1 + (32 + s) ≡ suc n * 33
    more s n e = omega arith

-- a link
pub link_put_lem : (b b₁ d : List ℕ) (at e : ℕ) (r : Ref) → b₁ ≡ written b at (be 1 r.peer) → e ≡ at + 1 → d ≡ written b₁ e (be 32 r.digest) → d ≡ written b at (field_bytes (link_fields (r ∷ [])))
unfolding link_fields
link_put_lem b b₁ d at e r p i q = put-more b b₁ d at e 1 _ _ p i (put_last b₁ d e 32 _ q)

-- one more
refs_more : (rs : List ℕ) (k : ℕ) → link_fields (refs_of rs 0 (k + 1)) ≡ link_fields (refs_of rs 0 k) ++ link_fields (ref_at rs k ∷ [])
unfolding refs_of
refs_more rs k = ap link_fields (refs_append rs 0 k 1 ∙ ap (λ (j : ℕ). refs_of rs 0 k ++ (ref_at rs j ∷ [])) (zero-add k)) ∙ links-append (refs_of rs 0 k) (ref_at rs k ∷ [])

module _ (rs : List ℕ) (k : ℕ) where
  pub peers_more : Fit rs → get_or rs (k * 5 + 0) 0 ≤ 255 → true ≡ all fits_field (link_fields (refs_of rs 0 k)) → true ≡ all fits_field (link_fields (refs_of rs 0 (k + 1)))
  unfolding link_fields
  peers_more f l h = sym (ap (all fits_field) (refs_more rs k) ∙ (fit_append (link_fields (refs_of rs 0 k)) _ ∙ both {a = all fits_field (link_fields (refs_of rs 0 k))} (sym h) (sym (fit_more 1 _ _ _ (omega arith) (fit_more 32 _ _ _ (digest_small rs (k * 5 + 1) f) fit_none)))))

  pub peers_none : (n : ℕ) → k < n → 255 < get_or rs (k * 5 + 0) 0 → false ≡ all fits_field (link_fields (refs_of rs 0 n))
  peers_none n l h = links_unfit rs 0 n k l (subst (λ (x : ℕ). 255 < get_or rs (x * 5 + 0) 0) (sym (zero-add k)) h)

  pub peers_end : (n : ℕ) → k ≤ n → n ≤ k → true ≡ all fits_field (link_fields (refs_of rs 0 k)) → true ≡ all fits_field (link_fields (refs_of rs 0 n))
  peers_end n l m h = h ∙ ap (λ (x : ℕ). all fits_field (link_fields (refs_of rs 0 x))) (omega arith)

module _ (rs b d : List ℕ) (at k : ℕ) (p : d ≡ written b at (field_bytes (link_fields (refs_of rs 0 k)))) where
  pub links-more : (g : List ℕ) (e : ℕ) → e ≡ at + k * 33 → g ≡ written d e (field_bytes (link_fields (ref_at rs k ∷ []))) → g ≡ written b at (field_bytes (link_fields (refs_of rs 0 (k + 1))))
  links-more g e i q =
      put_fields b d g at e (k * 33) _ _ (links-size (refs_of rs 0 k) ∙ ap (λ (n : ℕ). n * 33) (refs_length rs 0 k)) i p q ∙ ap (λ (l : List Field). written b at (field_bytes l)) (sym (refs_more rs k))

  pub links_end : (n : ℕ) → k ≤ n → n ≤ k → d ≡ written b at (field_bytes (link_fields (refs_of rs 0 n)))
  links_end n l m = p ∙ ap (λ (x : ℕ). written b at (field_bytes (link_fields (refs_of rs 0 x)))) (omega arith)

-- ---- fields

unfoldable pub count_fields : PointInfo → List Field
count_fields t = field 4 t.evidence ∷ field 1 t.includes ∷ field 1 t.witness ∷ []

abbrev pub marks_in : PointInfo → ℕ
marks_in t = bit 1 t.proof + bit 2 t.trigger + bit 4 t.cause

-- what stands before the links, and behind them
unfoldable pub info_fields : Id → PointInfo → List Field
info_fields i t = id_then i (field 1 t.status ∷ field 1 (marks_in t) ∷ id_then (id_of t.top_proof) (count_fields t))

unfoldable pub payload_fields : PointInfo → List Field
payload_fields t = field 4 t.payload_len ∷ field 4 t.payload_bytes ∷ []

abbrev pub all_fields : Id → PointInfo → List ℕ → List Field
all_fields i t rs = info_fields i t ++ (link_fields (refs_of rs 0 (t.includes + t.witness)) ++ payload_fields t)

abbrev pub told_by : PointInfo → List ℕ → Resolution
told_by t rs = record {
  status = t.status;
  proof = t.proof;
  trigger = t.trigger;
  cause = t.cause;
  top_proof = id_of t.top_proof;
  evidence = t.evidence;
  includes = refs_of rs 0 t.includes;
  witness = refs_of rs t.includes t.witness;
  payload_len = t.payload_len;
  payload_bytes = t.payload_bytes;
}

abbrev pub fits_id : Id → Bool
fits_id i = all fits_field (id_then i [])

abbrev pub fits_links : List ℕ → ℕ → Bool
fits_links rs n = all fits_field (link_fields (refs_of rs 0 n))

-- each number of links fits a byte, and as many words are lent
unfoldable pub told : ℕ → ℕ → ℕ → Bool
told m n words = leb m 255 && (leb n 255 && eqb words ((m + n) * 5))

-- the rest fits
unfoldable pub resolve_fits : Id → PointInfo → List ℕ → ℕ → Bool
resolve_fits i t rs n = fits_id i && (fits_id (id_of t.top_proof) && (leb t.status 255 && fits_links rs n))

-- by cases
module _ (m n words : ℕ) where
  pub told-includes : 255 < m → false ≡ told m n words
  unfolding told
  told-includes l = sym (and_no _ (lt-leb m 255 l))

  pub told_witness : 255 < n → false ≡ told m n words
  unfolding told
  told_witness l = sym (and_no_r (leb m 255) (and_no _ (lt-leb n 255 l)))

  pub told-words : m ≤ 255 → n ≤ 255 → eqb words ((m + n) * 5) ≡ told m n words
  unfolding told
  told-words k l = sym (and_yes (le-leb m 255 k) (and_yes (le-leb n 255 l) refl))

  pub told_small : told m n words ≡ true → (m ≤ 255) × (n ≤ 255) × ((m + n) * 5 ≡ words)
  unfolding told
  told_small h =
      let k = and_r (leb m 255) _ h in
      (leb-true m 255 (and_l (leb m 255) _ h), leb-true n 255 (and_l (leb n 255) _ k), sym (eqb-true words _ (and_r (leb n 255) _ k)))

module _ (i : Id) (t : PointInfo) (rs : List ℕ) (n : ℕ) where
  pub fits_id_lem : (a : Bool) → a ≡ fits_id i → a ≡ false → false ≡ resolve_fits i t rs n
  unfolding resolve_fits
  fits_id_lem a p h = sym (and_no _ (sym p ∙ h))

  pub fits_top : (b : Bool) → b ≡ fits_id (id_of t.top_proof) → b ≡ false → false ≡ resolve_fits i t rs n
  unfolding resolve_fits
  fits_top b q h = sym (and_no_r (fits_id i) (and_no _ (sym q ∙ h)))

  pub fits-status : 255 < t.status → false ≡ resolve_fits i t rs n
  unfolding resolve_fits
  fits-status l = sym (and_no_r (fits_id i) (and_no_r (fits_id (id_of t.top_proof)) (and_no _ (lt-leb t.status 255 l))))

  pub fits_links_lem : (a b l : Bool) → a ≡ fits_id i → a ≡ true → b ≡ fits_id (id_of t.top_proof) → b ≡ true → t.status ≤ 255 → l ≡ fits_links rs n → l ≡ resolve_fits i t rs n
  unfolding resolve_fits
  fits_links_lem a b l p h q k m r = r ∙ sym (and_yes (sym p ∙ h) (and_yes (sym q ∙ k) (and_yes (le-leb t.status 255 m) refl)))

pub mark_small : (w : ℕ) (b : Bool) → bit w b ≤ w
mark_small w true = omega arith
mark_small w false = omega arith

-- the tests in the order of the fields
pub arranged : (a b s m n l : Bool) → (m && n) ≡ true → (a && (b && (s && l))) ≡ ((a && (s && (b && (m && (n && true))))) && (l && true))
arranged false b s m n l h = refl
arranged true false true m n l h = refl
arranged true false false m n l h = refl
arranged true true false m n l h = refl
arranged true true true m n l h = sym (and-true l) ∙ sym (and_yes (ap (λ (x : Bool). m && x) (and-true n) ∙ h) refl)

pub unfit : (a s b m n x : Bool) → (m && n) ≡ false → ((a && (s && (b && (m && (n && true))))) && x) ≡ false
unfit a s b m n x h = and_no x (and_no_r a (and_no_r s (and_no_r b (ap (λ (y : Bool). m && y) (and-true n) ∙ h))))

-- with other numbers of links and other fields after them
abbrev pub framed : Id → PointInfo → ℕ → ℕ → List Field → List Field
framed i t m n l = id_then i (field 1 t.status ∷ field 1 (marks_in t) ∷ id_then (id_of t.top_proof) (field 4 t.evidence ∷ field 1 m ∷ field 1 n ∷ l))
