-- Products and sums of numbers in two halves, on plain numbers.
use Rattle.std.specs.Prelude.{◌≡◌, ℕ, ◌+◌, ◌-◌, ◌*◌, ◌/◌, ◌%◌, ◌^◌, ◌<◌, ◌≤◌, refl}
use Rattle.std.proofs.Common.{sym, ap, ap₂, ◌∙◌, arith, add_assoc, add_comm, mul_assoc, mul_comm, mul_left_comm, add-mul, mul-le-mul, div-add-mod', lit<}
use Rattle.std.proofs.Math.Nat.{add_left_comm, mod-add-mod, add-mod-mod, mul-add-mod_self_right}
use Rattle.std.proofs.Math.Arith.{digits_div, digits_mod, mod-mul}
use Rattle.pcg.specs.Columns.{whole, columns}

-- 2 ^ 32 and 2 ^ 64 as `omega` reads them
abbrev P : ℕ
P = 4294967296

abbrev B : ℕ
B = 18446744073709551616

-- the product of two limbs
pub limbs : (x y : ℕ) → x < 2 ^ 32 → y < 2 ^ 32 → x * y ≤ (2 ^ 32 - 1) * (2 ^ 32 - 1)
limbs x y h k = mul-le-mul {n₂ = 4294967295} {m₂ = 4294967295} (omega arith) (omega arith)

-- the product of two words by its columns
pub product_is : (u v l m n h : ℕ) → l ≡ u % P * (v % P) → m ≡ u / P * (v % P) → n ≡ u % P * (v / P) → h ≡ u / P * (v / P)
    → (h + (m + l / P) / P + (n + (m + l / P) % P) / P) * B + ((n + (m + l / P) % P) % P * P + l % P) ≡ u * v
product_is u v l m n h el em en eh =
    let s : ℕ = m + l / P in
    let t : ℕ = n + s % P in
    ap (λ (x : ℕ). (x + s / P + t / P) * B + (t % P * P + l % P)) eh
    ∙ (sym (columns P (u % P) (u / P) (v % P) (v / P) (l / P) (l % P) (s / P) (s % P) (t / P) (t % P)
    (sym el ∙ sym (div-add-mod' l P)) (ap (λ (x : ℕ). x + l / P) (sym em) ∙ sym (div-add-mod' s P)) (ap (λ (x : ℕ). x + s % P) (sym en) ∙ sym (div-add-mod' t P)))
    ∙ ap₂ ◌*◌ (div-add-mod' u P) (div-add-mod' v P))

-- a number of two halves, cut to 128 bits
wrapped : (x y n : ℕ) → y < B → n ≡ x * B + y → x % B * B + y ≡ n % 2 ^ 128
wrapped x y n h e =
    ap₂ (λ (p q : ℕ). p % B * B + q) (sym (digits_div x h)) (sym (digits_mod x h))
    ∙ (sym (mod-mul (x * B + y) {m = B} {c = B} (lit< tt) (lit< tt)) ∙ ap (λ (k : ℕ). k % 2 ^ 128) (sym e))

-- the sum, where the low halves carry and where they don't
pub sum_carried : (ah al bh bl h l r : ℕ) → al < 2 ^ 64 → bl < 2 ^ 64 → l ≡ (al + bl) % B → h ≡ (ah + bh) % B → r ≡ (h + 1) % B → l < al
    → r * B + l ≡ (ah * B + al + (bh * B + bl)) % 2 ^ 128
sum_carried ah al bh bl h l r fa fb el eh er c =
    ap (λ (x : ℕ). x * B + l) (er ∙ (ap (λ (x : ℕ). (x + 1) % B) eh ∙ mod-add-mod (ah + bh) B 1))
    ∙ wrapped (ah + bh + 1) l (ah * B + al + (bh * B + bl)) (omega arith) (omega arith)

pub sum_plain : (ah al bh bl h l : ℕ) → al < 2 ^ 64 → bl < 2 ^ 64 → l ≡ (al + bl) % B → h ≡ (ah + bh) % B → al ≤ l
    → h * B + l ≡ (ah * B + al + (bh * B + bl)) % 2 ^ 128
sum_plain ah al bh bl h l fa fb el eh c =
    ap (λ (x : ℕ). x * B + l) eh
    ∙ wrapped (ah + bh) l (ah * B + al + (bh * B + bl)) (omega arith) (omega arith)

-- the product by the products of its halves
spread : (Q z xh xl yh yl ph pl : ℕ) → z * (Q * Q) + (xh * Q + xl) * Q + (yh * Q + yl) * Q + (ph * Q + pl) ≡ (z + xh + yh) * (Q * Q) + ((ph + (xl + yl)) * Q + pl)
spread Q z xh xl yh yl ph pl = simp (add-mul, mul_assoc, mul_comm, mul_left_comm, add_assoc, add_comm, add_left_comm) refl

pub wrapping_product : (ah al bh bl xh xl yh yl ph pl s r : ℕ) → pl < 2 ^ 64 → ph * B + pl ≡ al * bl → xh * B + xl ≡ ah * bl → yh * B + yl ≡ al * bh → s ≡ (xl + yl) % B → r ≡ (ph + s) % B
    → r * B + pl ≡ (ah * B + al) * (bh * B + bl) % 2 ^ 128
wrapping_product ah al bh bl xh xl yh yl ph pl s r f ep ex ey es er =
    ap (λ (k : ℕ). k * B + pl) (er ∙ (ap (λ (k : ℕ). (ph + k) % B) es ∙ add-mod-mod ph (xl + yl) B))
    ∙ (wrapped (ph + (xl + yl)) pl ((ph + (xl + yl)) * B + pl) f refl
    ∙ (sym (mul-add-mod_self_right (ah * bh + xh + yh) (2 ^ 128) ((ph + (xl + yl)) * B + pl))
    ∙ ap (λ (k : ℕ). k % 2 ^ 128) (sym product)))
  where
    product : (ah * B + al) * (bh * B + bl) ≡ (ah * bh + xh + yh) * 2 ^ 128 + ((ph + (xl + yl)) * B + pl)
    product =
        whole B al ah bl bh
        ∙ (rw (sym ep, sym ex, sym ey) (spread B (ah * bh) xh xl yh yl ph pl))
