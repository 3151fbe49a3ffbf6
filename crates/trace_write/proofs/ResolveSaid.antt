-- Theorems on the definitions of specs/Resolve.
use Prim.Native.Nat.{ℕ, zero, suc, ◌+◌, ◌*◌, ◌^◌, ◌<◌, ◌≤◌}
use Rattle.std.specs.Prelude.{◌≡◌, Bool, not, eqb, get_or}
use Rattle.std.proofs.Math.Path.{refl, sym, ap, ap₂}
use Rattle.std.proofs.Common.{◌∙◌, subst, true≢false, add-zero, zero-add}
use mathlib.Core.List.{List, [], ◌∷◌, ◌++◌, append_assoc}
use Rattle.std.proofs.Math.Bool.{true, false, ◌&&◌}
use native.Mathlib.Omega.{arith}
use Rattle.std.proofs.Math.Dec.{leb}
use Rattle.std.proofs.Math.ListN.{length, length-append}
use borrow.Author.Tests.{le-ltb, lt-leb, le-leb, leb-true, eqb-true}
use mir.Val.{Val}
use denote.Laws.{Is}
use denote.Struct.Declared.{row}
use Rattle.laws.specs.Test.{by_test, both, and_l, and_r, and_no, and_no_r, and_yes, and-true, not_yes, cond_yes}
use Rattle.laws.specs.Lists.{all}
use Rattle.laws.specs.Bytes.{be, written}
use Rattle.spec.specs.Ids.{Id, Ref}
use Rattle.spec.specs.Store.{Resolution, bit}
use Rattle.spec.specs.Chain.{Out, refuse}
use Rattle.spec.specs.Walk.{refuse_back}
use Rattle.spec.specs.Calls.{Call, number_of, resolve}
use Rattle.models.specs.Digest.{Fit, digest_at}
use Rattle.models.specs.Info.{ref_at, refs_of, info_of}
use Rattle.models.specs.Parts.{id_of}
use Rattle.models.specs.contracts.info.PointInfo.{the_type}
use Rattle.models.specs.declared.info.PointInfo.{PointInfo}
use Rattle.trace.specs.Write.{Field, field, field_bytes, fits_field, id_then, link_fields, marks_byte, resolve_fields, fields_of, kind_byte, sayable, fields_in, record_bytes, put_record}
use Rattle.trace.proofs.ReadBack.{size, fields_length, fields_append}
use Rattle.trace_write.specs.Puts.{PutAs, Puts, Said}
use Rattle.trace_write.proofs.Puts.{put_refused}
use Rattle.trace_write.proofs.Puts.{head_unfit}
use Rattle.trace_write.specs.Fields.{fit_none, fit_more, fit_append, put-more, put_last, put_fields}
use Rattle.trace_write.specs.Ids.{byte_fit, digest_small}
use Rattle.trace_write.specs.Resolve.{lent, resolving, put_resolve, PutsResolve, Small, refs_length, refs_append, links-append, links-size, count_fields, marks_in, info_fields, payload_fields, all_fields, told_by, fits_id, fits_links, told, resolve_fits, mark_small, arranged, unfit, framed}

module _ (i : Id) (t : PointInfo) (rs : List ℕ) where
  fields_told : lent t rs ≡ true → fields_of (resolving i t rs) ≡ all_fields i t rs
  unfolding fields_of resolve_fields marks_byte info_of info_fields count_fields payload_fields
  fields_told e =
      let a : List Ref = refs_of rs 0 t.includes in
      let b : List Ref = refs_of rs t.includes t.witness in
      ap (resolve_fields i) (cond_yes _ _ (told_by t rs) e refl)
      ∙ (ap₂ (λ (m n : ℕ). framed i t m n (link_fields a ++ (link_fields b ++ payload_fields t))) (refs_length rs 0 t.includes) (refs_length rs t.includes t.witness)
      ∙ ap (framed i t t.includes t.witness) (sym (append_assoc (link_fields a) (link_fields b) (payload_fields t))
      ∙ ap (λ (l : List Field). l ++ payload_fields t) (sym (ap link_fields (refs_append rs 0 t.includes t.witness ∙ ap (λ (j : ℕ). a ++ refs_of rs j t.witness) (zero-add t.includes)) ∙ links-append a b))))

  front_fit : t.evidence < 2 ^ 32
      → (fits_id i && (leb t.status 255 && (fits_id (id_of t.top_proof) && (leb t.includes 255 && (leb t.witness 255 && true))))) ≡ all fits_field (info_fields i t)
  unfolding info_fields count_fields
  front_fit e =
      let a : Id = id_of t.top_proof in
      let c = fit_more 4 t.evidence _ _ e (byte_fit t.includes _ _ (byte_fit t.witness [] true fit_none)) in
      let d = ap (λ (x : Bool). fits_id a && x) c ∙ sym (fit_append (id_then a []) _) in
      let g = fit_more 1 (marks_in t) (id_then a _) _ (omega (arith, mark_small 1 t.proof, mark_small 2 t.trigger, mark_small 4 t.cause)) d in
      ap (λ (x : Bool). fits_id i && x) (byte_fit t.status (field 1 (marks_in t) ∷ id_then a _) _ g) ∙ sym (fit_append (id_then i []) _)

  all_fit : Small t
      → ((fits_id i && (leb t.status 255 && (fits_id (id_of t.top_proof) && (leb t.includes 255 && (leb t.witness 255 && true)))))
      && (fits_links rs (t.includes + t.witness) && true)) ≡ all fits_field (all_fields i t rs)
  unfolding payload_fields
  all_fit s =
      ap₂ ◌&&◌ (front_fit s.evidence) (ap (λ (x : Bool). fits_links rs (t.includes + t.witness) && x) (fit_more 4 _ _ _ s.length (fit_more 4 _ _ _ s.bytes fit_none)) ∙ sym (fit_append (link_fields (refs_of rs 0 (t.includes + t.witness))) (payload_fields t)))
      ∙ sym (fit_append (info_fields i t) _)

  all-size : length (field_bytes (all_fields i t rs)) ≡ 90 + 33 * (t.includes + t.witness)
  unfolding info_fields count_fields payload_fields size
  all-size =
      let n : ℕ = t.includes + t.witness in
      let ls : List Field = link_fields (refs_of rs 0 n) in
      omega (
        arith,
        ap length (fields_append (info_fields i t) (ls ++ payload_fields t)),
        ap length (fields_append ls (payload_fields t)),
        length-append (field_bytes (info_fields i t)) (field_bytes (ls ++ payload_fields t)),
        length-append (field_bytes ls) (field_bytes (payload_fields t)),
        fields_length (info_fields i t),
        fields_length (payload_fields t),
        links-size (refs_of rs 0 n),
        refs_length rs 0 n,
      )

  -- told and lent
  lent-told : told t.includes t.witness (length rs) ≡ true → (lent t rs ≡ true) × ((leb t.includes 255 && leb t.witness 255) ≡ true)
  unfolding told
  lent-told h = let k = and_r (leb t.includes 255) _ h in (and_r (leb t.witness 255) _ k, both {a = leb t.includes 255} {b = leb t.witness 255} (and_l (leb t.includes 255) _ h) (and_l (leb t.witness 255) _ k))

  lent_untold : told t.includes t.witness (length rs) ≡ false → lent t rs ≡ true → (leb t.includes 255 && leb t.witness 255) ≡ false
  unfolding told
  lent_untold h e = ap (λ (x : Bool). leb t.includes 255 && x) (sym (and-true _) ∙ ap (λ (x : Bool). leb t.witness 255 && x) (sym e)) ∙ h

  pub resolve_said : (f : Bool) → told t.includes t.witness (length rs) ≡ true → f ≡ resolve_fits i t rs (t.includes + t.witness) → Small t
      → Said (resolving i t rs) 4 f (90 + 33 * (t.includes + t.witness)) (all_fields i t rs)
  unfolding kind_byte sayable resolve_fits
  resolve_said f h g s = record {
    kind = refl;
    fields = fields_told (lent-told h).0;
    fit = g ∙ arranged (fits_id i) (fits_id (id_of t.top_proof)) (leb t.status 255) (leb t.includes 255) (leb t.witness 255) (fits_links rs (t.includes + t.witness)) (lent-told h).1 ∙ all_fit s;
    size = λ _. sym all-size;
  }

  put-lent : (b : List ℕ) → lent t rs ≡ true → put_resolve b i t rs ≡ put_record b (resolving i t rs)
  unfolding put_resolve
  put-lent b e = refuse_back (not (lent t rs)) 26 (put_record b (resolving i t rs)) (not_yes e)

  pub resolve-lent : (b d : List ℕ) (x n : ℕ) → told t.includes t.witness (length rs) ≡ true → Puts b (resolving i t rs) x n d → PutsResolve b i t rs x n d
  resolve-lent b d x n h p = rw (put-lent b (lent-told h).0) p

  -- more than a byte counts
  resolve-many : (b : List ℕ) → lent t rs ≡ true → (leb t.includes 255 && leb t.witness 255) ≡ false → Small t → PutsResolve b i t rs 26 0 b
  unfolding kind_byte sayable
  resolve-many b k h s = rw (put-lent b k) (put_refused {k = 4} {f = false} {n = 0} {fs = all_fields i t rs} (record {
    kind = refl;
    fields = fields_told k;
    fit = sym (sym (all_fit s) ∙ unfit (fits_id i) (leb t.status 255) (fits_id (id_of t.top_proof)) (leb t.includes 255) (leb t.witness 255) _ h);
    size = λ z. absurd (true≢false (sym z));
  }) b 26 b (head_unfit 4 false 0 b refl) (λ z. omega arith))

  -- not as many as told
  resolve_unlike : (b : List ℕ) → lent t rs ≡ false → PutsResolve b i t rs 26 0 b
  unfolding PutAs put_resolve refuse number_of
  resolve_unlike b k = rw k (refl, refl, refl)

  pub resolve_untold : (b : List ℕ) → told t.includes t.witness (length rs) ≡ false → Small t → PutsResolve b i t rs 26 0 b
  resolve_untold b h s = by_test (lent t rs) (λ k. resolve-many b k (lent_untold h k) s) (resolve_unlike b)

  -- the three groups
  pub resolve-put : (b b₁ b₂ d : List ℕ) (at e₁ e₂ : ℕ) → b₁ ≡ written b at (field_bytes (info_fields i t)) → e₁ ≡ at + 82 → b₂ ≡ written b₁ e₁ (field_bytes (link_fields (refs_of rs 0 (t.includes + t.witness))))
      → e₂ ≡ e₁ + (t.includes + t.witness) * 33 → d ≡ written b₂ e₂ (field_bytes (payload_fields t)) → d ≡ written b at (field_bytes (all_fields i t rs))
  unfolding info_fields count_fields size
  resolve-put b b₁ b₂ d at e₁ e₂ p i₁ q i₂ r =
      put_fields b b₁ d at e₁ 82 _ _ (fields_length (info_fields i t)) i₁ p
      (put_fields b₁ b₂ d e₁ e₂ _ _ (payload_fields t) (links-size (refs_of rs 0 (t.includes + t.witness)) ∙ ap (λ (n : ℕ). n * 33) (refs_length rs 0 (t.includes + t.witness))) i₂ q r)
