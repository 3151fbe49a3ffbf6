-- The certificate word after a resolution (01: 'Forms of the Rust').
use Rattle.std.specs.Prelude.{ℕ, ◌≤◌, ◌<◌, ◌≡◌, refl, List, ◌||◌, cond, leb, get_or, set}
use Rattle.std.proofs.Common.{arith}
use Rattle.laws.specs.Test.{by_test}
use Rattle.spec.specs.Store.{word}
use Rattle.models.specs.Cert.{flags_of, height_of, linked}
use Rattle.cert_certify.specs.Word.{flags_word, height-word, word_small}

-- the word c of a point that was resolved with this status: started and completed are set where links come in
unfoldable pub cert_of : ℕ → ℕ → ℕ
cert_of status c = cond (leb status 3) (word (linked (flags_of c)) (height_of c)) c

-- a height has 12 bits
height_most : (c : ℕ) → height_of c < 4096
unfolding height_of
height_most c = omega arith

module _ (status c : ℕ) where
  -- its height stays
  pub cert_height : height_of (cert_of status c) ≡ height_of c
  unfolding cert_of
  cert_height = by_test (leb status 3) (λ t. rw t (height-word (linked (flags_of c)) (height_of c) (height_most c))) (λ f. rw f refl)

  -- it has 16 bits
  pub cert_most : c ≤ 65535 → cert_of status c ≤ 65535
  unfolding cert_of
  cert_most l = by_test (leb status 3) (λ t. rw t (omega (arith, word_small (linked (flags_of c)) (height_of c) (height_most c)))) (λ f. rw f l)

  -- its flags
  pub cert_flags : flags_of (cert_of status c) ≡ record {
    top = (flags_of c).top;
    started = leb status 3 || (flags_of c).started;
    completed = leb status 3 || (flags_of c).completed;
    committed = (flags_of c).committed;
  }
  unfolding cert_of linked
  cert_flags = by_test (leb status 3) (λ t. rw t (flags_word (linked (flags_of c)) (height_of c) (height_most c))) (λ f. rw f refl)

-- the certificate words after a resolution of the place q
unfoldable pub deps_set : List ℕ → ℕ → ℕ → List ℕ
deps_set cs q status = set cs q (cert_of status (get_or cs q 0))
