-- Laws of eight bytes at once.
use Rattle.std.proofs.Common.{◌≡◌, ℕ, zero, suc, ◌+◌, ◌*◌, ◌<◌, ◌≤◌, List, length, get_or, take, drop, take_all, sym, w64, refl, ap, ◌∙◌, arith, drop-cons}
use Rattle.std.specs.Int.{from_le_bytes}
use Rattle.wire.specs.Number.{number}

-- n bytes from place i on as a number, each looked at in its place
abbrev digits : ℕ → ℕ → List ℕ → ℕ
digits zero i s = 0
digits (suc n) i s = get_or s i 0 + digits n (suc i) s * 256

digits-take : (n i : ℕ) (s : List ℕ) → i + n ≤ length s → number (take n (drop i s)) ≡ digits n i s
unfolding number
digits-take zero i s h = refl
digits-take (suc n) i s h =
    let l : i < length s = omega arith in
    ap (λ (t : List ℕ). number (take (suc n) t)) (drop-cons s i 0 l)
    ∙ ap (λ (x : ℕ). get_or s i 0 + x * 256) (digits-take n (suc i) s (omega arith))

in_places : (a b c d e f g h : ℕ)
    → a + b * 256 + c * 65536 + d * 16777216 + e * 4294967296 + f * 1099511627776 + g * 281474976710656 + h * 72057594037927936
    ≡ a + (b + (c + (d + (e + (f + (g + (h + 0 * 256) * 256) * 256) * 256) * 256) * 256) * 256) * 256
in_places a b c d e f g h = omega arith

pub number-eight : (s : List ℕ) → length s ≡ 8 → from_le_bytes w64 s ≡ number s
number-eight s h =
    in_places (get_or s 0 0) (get_or s 1 0) (get_or s 2 0) (get_or s 3 0) (get_or s 4 0) (get_or s 5 0) (get_or s 6 0) (get_or s 7 0)
    ∙ sym (digits-take 8 0 s (omega arith)) ∙ ap number (take_all 8 s (omega arith))
