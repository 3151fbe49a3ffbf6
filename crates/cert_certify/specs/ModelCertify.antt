-- What a certificate leaves of the certificate words (01: cert.rs).
use Rattle.std.specs.Prelude.{ℕ, ◌+◌, ◌*◌, ◌≤◌, ◌<◌, ◌≡◌, List, length, get_or, set}
use Rattle.std.proofs.Common.{◌∙◌, ap, arith, length-set}
use Rattle.spec.specs.Store.{word}
use Rattle.models.specs.Cert.{flags_of, height_of, with_height, topped, with_height_lem}
use Rattle.commit_state.specs.declared.state.State.{State}
use Rattle.cert_certify.specs.Model.{propagated, start, traversed, visited-length}
use Rattle.cert_certify.specs.Sane.{Placed}
use Rattle.cert_certify.specs.Word.{topped_small, topped-word}

-- place q is a top, and has a top's height
unfoldable pub topped_certs : State → List ℕ → ℕ → List ℕ
topped_certs s cs q = set cs q (word (topped (flags_of (get_or cs q 0))) (s.commit_history_rounds + 1))

-- and has handed it on
unfoldable pub certified_certs : State → List ℕ → List ℕ → List ℕ → ℕ → List ℕ
certified_certs s ks ls cs q = traversed s.bottom.0 ks ls (topped_certs s cs q) q

-- what the tables must be for the place q to be certified
abbrev pub Certifiable : State → List ℕ → List ℕ → List ℕ → ℕ → Type 0
Certifiable s ks ls cs q =
    ((length ks ≡ length cs * 8) × (length ls ≡ length cs * 328) × (q < length cs) × (get_or cs q 0 < 65536) × (s.commit_history_rounds ≤ 255))
    × Placed s.bottom.0 ks ls cs q

-- the height can be handed on after another word is written
pub certifiable_set : (s : State) (ks ls cs : List ℕ) (q x : ℕ) → Certifiable s ks ls cs q
    → ((length ks ≡ length (set cs q x) * 8) × (length ls ≡ length (set cs q x) * 328)) × Placed s.bottom.0 ks ls (set cs q x) q
certifiable_set s ks ls cs q x ((a, b, l, w, most), (os, n, r)) =
    let e = length-set cs q x in
    ((omega (arith, e, a), omega (arith, e, b)), (os, n, record { small = omega (arith, e, r.small); inside = λ i l. omega (arith, e, r.inside i l); falls = r.falls; first = r.first }))

-- the words that the code leaves
pub certified_by : (s : State) (ks ls cs ds : List ℕ) (q t g x : ℕ) → t ≡ word (topped (flags_of (get_or cs q 0))) (height_of (get_or cs q 0)) → g ≡ s.commit_history_rounds + 1 → x ≡ with_height t g
    → ds ≡ traversed s.bottom.0 ks ls (set cs q x) q → ds ≡ certified_certs s ks ls cs q
unfolding certified_certs topped_certs
certified_by s ks ls cs ds q t g x e h d f = f ∙ ap (λ (w : ℕ). traversed s.bottom.0 ks ls (set cs q w) q) (topped-word (get_or cs q 0) t e (s.commit_history_rounds + 1) x (d ∙ (ap (with_height t) h ∙ with_height_lem t _ (topped_small (get_or cs q 0) t e))))

-- they are as many as before
pub certified-length : (s : State) (ks ls cs ds : List ℕ) (q : ℕ) → ds ≡ certified_certs s ks ls cs q → length ds ≡ length cs
unfolding certified_certs topped_certs traversed propagated start
certified-length s ks ls cs ds q e = ap length e ∙ ((visited-length s.bottom.0 ks ls (start (topped_certs s cs q) q) 4096).0 ∙ length-set cs q _)
