-- What the code does (models/cert.rs).
use Prim.Native.Nat.{ℕ, zero, suc, ◌+◌, ◌-◌, ◌≤◌, ◌<◌}
use Rattle.std.specs.Prelude.{◌≡◌, cond, List, eqb, ltb, get_or, set, length, replicate}
use Rattle.std.proofs.Math.Path.{refl, sym, ap}
use Rattle.std.proofs.Common.{◌∙◌, subst, ⊎_elim, arith, add-one}
use Rattle.std.proofs.Math.ListN.{length-set}
use borrow.Author.Tests.{eq-eqb, ne_eqb, lt-ltb, le-ltb}
use Rattle.laws.specs.Test.{by_test, same_or, le_or-lt}
use Rattle.models.specs.Cert.{height_of, with_height}
use Rattle.models.specs.Tables.{target_at, dist}
use Rattle.tables_heights.specs.View.{height_at}
use Rattle.models.specs.Live.{reach}

-- the certificate words, the queue and its end
pub record Work : Type 0 where
  pub certs : List ℕ
  pub queue : List ℕ
  pub tail : ℕ

-- the three together
abbrev pub work : List ℕ → List ℕ → ℕ → Work
work cs qs e = record { certs = cs; queue = qs; tail = e }

-- place t has the height v, under the same flags, and is queued
unfoldable pub queued : Work → ℕ → ℕ → Work
queued w t v = work (set w.certs t (with_height (get_or w.certs t 0) v)) (set w.queue w.tail t) (w.tail + 1)

-- a link with the target word a, d rounds down from a place of height h
unfoldable pub deeper : Work → ℕ → ℕ → ℕ → Work
deeper w a h d = cond (eqb a 0) w (cond (ltb (height_at w.certs (a - 1) + d) h) (queued w (a - 1) (h - d)) w)

-- the first k links of a place of height h, whose target words are a
unfoldable pub handed : (ℕ → ℕ) → ℕ → Work → ℕ → Work
handed a h w zero = w
handed a h w (suc k) = deeper (handed a h w k) (a k) h (dist k)

-- place p hands its height on along its live links
unfoldable pub passed : ℕ → List ℕ → List ℕ → Work → ℕ → Work
passed b ks ls w p = handed (target_at ls p) (height_at w.certs p) w (reach b ks p)

-- the first f entries of the queue, as far as there are so many
unfoldable pub visited : ℕ → List ℕ → List ℕ → Work → ℕ → Work
visited b ks ls w zero = w
visited b ks ls w (suc f) = let v = visited b ks ls w f in cond (ltb f v.tail) (passed b ks ls v (get_or v.queue f 0)) v

-- the certificate words once the queue is visited
unfoldable pub propagated : ℕ → List ℕ → List ℕ → Work → List ℕ
propagated b ks ls w = (visited b ks ls w 4096).certs

-- place q is queued
unfoldable pub start : List ℕ → ℕ → Work
start cs q = work cs (set (replicate 4096 0) 0 q) 1

-- the certificate words once the height of place q is handed on
unfoldable pub traversed : ℕ → List ℕ → List ℕ → List ℕ → ℕ → List ℕ
traversed b ks ls cs q = propagated b ks ls (start cs q)

-- the target word a names a place, and where it rises the queue has room
abbrev pub Fits : Work → ℕ → ℕ → ℕ → Type 0
Fits w a h d = (a ≤ length w.certs) × (0 < a → height_at w.certs (a - 1) + d < h → w.tail < 4096)

-- so for each of the first m links of place p
abbrev pub Open : List ℕ → Work → ℕ → ℕ → Type 0
Open ls w p m = let h = height_at w.certs p in (k : ℕ) → k < m → Fits (handed (target_at ls p) h w k) (target_at ls p k) h (dist k)

-- so for each entry of the queue, once those before it are visited
abbrev pub Ready : ℕ → List ℕ → List ℕ → Work → Type 0
Ready b ks ls w = (f : ℕ) → let v = visited b ks ls w f in let p = get_or v.queue f 0 in
    f < v.tail → (v.tail ≤ 4096) × (p < length v.certs) × Open ls v p (reach b ks p)

-- the code's steps: a link
module _ (w : Work) (a h d : ℕ) where
  -- the word names no place
  pub deeper-none : a ≡ 0 → w ≡ deeper w a h d
  unfolding deeper
  deeper-none e = rw (eq-eqb a 0 e) refl

  -- the place is lower: its height is g, its new word x
  pub deeper_up : (g x : ℕ) → g ≡ height_of (get_or w.certs (a - 1) 0) → x ≡ with_height (get_or w.certs (a - 1) 0) (h - d) → (a ≡ 0 → ⊥) → g + d < h
      → work (set w.certs (a - 1) x) (set w.queue w.tail (a - 1)) (w.tail + 1) ≡ deeper w a h d
  unfolding deeper queued height_of
  deeper_up g x e f n l = rw (f, ne_eqb a 0 n, lt-ltb (height_at w.certs (a - 1) + d) h (omega (arith, e))) refl

  -- it is not
  pub deeper-same : (g : ℕ) → g ≡ height_of (get_or w.certs (a - 1) 0) → (a ≡ 0 → ⊥) → h ≤ g + d → w ≡ deeper w a h d
  unfolding deeper height_of
  deeper-same g e n l = rw (ne_eqb a 0 n, le-ltb (height_at w.certs (a - 1) + d) h (omega (arith, e))) refl

  -- as many words as before
  deeper-length : (length (deeper w a h d).certs ≡ length w.certs) × (length (deeper w a h d).queue ≡ length w.queue)
  unfolding deeper queued
  deeper-length =
      by_test (eqb a 0)
      (λ t. rw t (refl, refl))
      (λ f. by_test (ltb (height_at w.certs (a - 1) + d) h)
      (λ t. rw (f, t) (length-set w.certs (a - 1) _, length-set w.queue w.tail (a - 1)))
      (λ t. rw (f, t) (refl, refl)))

-- link k of place p, where all links fit
pub open_at : (ls : List ℕ) (w u : Work) (p m k h t : ℕ) → Open ls w p m → u ≡ handed (target_at ls p) (height_at w.certs p) w k → h ≡ height_of (get_or w.certs p 0) → t ≡ target_at ls p k → k < m
    → Fits u t h (dist k)
unfolding height_of
open_at ls w u p m k h t o e f x l = rw (f, x) (subst (λ v. Fits v (target_at ls p k) (height_at w.certs p) (dist k)) (sym e) (o k l))

-- the links of a place
module _ (a : ℕ → ℕ) (h : ℕ) (w : Work) where
  -- one link more
  pub handed-more : (u v : Work) (k d g t : ℕ) → u ≡ handed a h w k → d ≡ dist k → g ≡ h → t ≡ a k → v ≡ deeper u t g d → v ≡ handed a h w (k + 1)
  unfolding handed
  handed-more u v k d g t p e f x q = rw (add-one k) (q ∙ rw (p, e, f, x) refl)

  -- all m links
  pub handed_end : (u : Work) (k m : ℕ) → u ≡ handed a h w k → k ≤ m → m ≤ k → u ≡ handed a h w m
  handed_end u k m p l n = let e : k ≡ m = omega arith in rw e at p

  -- as many words as before
  pub handed-length : (k : ℕ) → (length (handed a h w k).certs ≡ length w.certs) × (length (handed a h w k).queue ≡ length w.queue)
  unfolding handed
  handed-length zero = (refl, refl)
  handed-length (suc k) =
      let s = deeper-length (handed a h w k) (a k) h (dist k) in let r = handed-length k in (s.0 ∙ r.0, s.1 ∙ r.1)

-- the queue
module _ (b : ℕ) (ks ls : List ℕ) (w : Work) where
  -- one entry more
  pub visited-next : (f : ℕ) → let v = visited b ks ls w f in f < v.tail → visited b ks ls w (suc f) ≡ passed b ks ls v (get_or v.queue f 0)
  unfolding visited
  visited-next f l = rw (lt-ltb f _ l) refl

  -- no entry is left
  pub visited_end : (f : ℕ) → let v = visited b ks ls w f in v.tail ≤ f → visited b ks ls w (suc f) ≡ v
  unfolding visited
  visited_end f l = rw (le-ltb f _ l) refl

  -- so none comes any more
  pub visited-stays : (f g : ℕ) → (visited b ks ls w f).tail ≤ f → f ≤ g → visited b ks ls w g ≡ visited b ks ls w f
  visited-stays f zero l m = let e : f ≡ 0 = omega arith in rw e refl
  visited-stays f (suc g) l m =
      same_or f (suc g)
      (λ e. rw e refl)
      (λ e. let r = visited-stays f g l (omega arith) in visited_end g (omega (arith, ap (λ v. v.tail) r)) ∙ r)

  -- as many words as before
  pub visited-length : (f : ℕ) → (length (visited b ks ls w f).certs ≡ length w.certs) × (length (visited b ks ls w f).queue ≡ length w.queue)
  unfolding visited passed
  visited-length zero = (refl, refl)
  visited-length (suc f) =
      let v = visited b ks ls w f in
      let r = visited-length f in
      let s = handed-length (target_at ls (get_or v.queue f 0)) (height_at v.certs (get_or v.queue f 0)) v (reach b ks (get_or v.queue f 0)) in
      by_test (ltb f v.tail) (λ t. rw t (s.0 ∙ r.0, s.1 ∙ r.1)) (λ t. rw t r)

  -- an entry that the code visits is a place in the tables
  pub ready_at : (u : Work) (f p : ℕ) → Ready b ks ls w → u ≡ visited b ks ls w f → f < u.tail → p ≡ get_or u.queue f 0
      → (f < 4096) × (p < length w.certs) × (p < length u.certs) × (length u.queue ≡ length w.queue)
  ready_at u f p r e l at =
      let n = visited-length f in
      let k : f < (visited b ks ls w f).tail = rw (← e) l in
      let s = r f k in
      rw (at, e) (omega arith, omega arith, s.1, n.1)

  -- there is room for what it hands on
  pub ready_open : (u : Work) (f p m : ℕ) → Ready b ks ls w → u ≡ visited b ks ls w f → f < u.tail → p ≡ get_or u.queue f 0 → m ≡ reach b ks p → Open ls u p m
  ready_open u f p m r e l at k = rw (k, at, e) (r f (rw (← e) l)).2

  -- it is visited
  pub visited-more : (u v : Work) (f p m : ℕ) → u ≡ visited b ks ls w f → f < u.tail → p ≡ get_or u.queue f 0 → m ≡ reach b ks p
      → v ≡ handed (target_at ls p) (height_at u.certs p) u m → v ≡ visited b ks ls w (f + 1)
  unfolding passed
  visited-more u v f p m e l at k h = rw (add-one f) (h ∙ (rw (k, at, e) refl ∙ sym (visited-next f (rw (← e) l))))

  -- the code stops
  pub settled_at : (u : Work) (f : ℕ) → u ≡ visited b ks ls w f → f ≤ 4096 → u.tail ≤ f → u.certs ≡ propagated b ks ls w
  unfolding propagated
  settled_at u f e l m = ap (λ v. v.certs) (e ∙ sym (visited-stays f 4096 (rw (← e) m) l))

-- ---- where every link has what is handed on

-- the links of a place change nothing
pub handed-same : (a : ℕ → ℕ) (h : ℕ) (w : Work) (m : ℕ) → ((k : ℕ) → k < m → 0 < a k → h ≤ height_at w.certs (a k - 1) + dist k) → (k : ℕ) → k ≤ m → handed a h w k ≡ w
unfolding handed height_of
handed-same a h w m f zero l = refl
handed-same a h w m f (suc k) l =
    ap (λ (u : Work). deeper u (a k) h (dist k)) (handed-same a h w m f k (omega arith))
    ∙ sym (⊎_elim (λ z. deeper-none w (a k) h (dist k) (omega arith)) (λ z. deeper-same w (a k) h (dist k) _ refl (λ e. omega arith) (f k (omega arith) z)) (le_or-lt (a k) 0))

-- the first entry of a queue
pub first-visited : (b : ℕ) (ks ls : List ℕ) (w : Work) → 0 < w.tail → visited b ks ls w 1 ≡ passed b ks ls w (get_or w.queue 0 0)
unfolding visited
first-visited b ks ls w l = visited-next b ks ls w 0 l
