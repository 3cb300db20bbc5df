-- Laws of the moves: std's writes to a part of a slice in the words of lists, and what a move and a write after it leave. On plain lists.
-- Leans on the library's lists. Assumes nothing.
use Rattle.std.proofs.Common.{◌≡◌, ℕ, ◌+◌, ◌-◌, ◌≤◌, sym, ap, ◌∙◌, List, [], ◌++◌, append_assoc, append-nil, length, take, drop, replicate, length-append, length-take, length-drop, drop_of_length-le, length-take-le, drop-drop, drop_at, take_at, take-take, arith}
use native.Mathlib.Nat.{sub-zero}
use Rattle.std.proofs.lemmas.List.{length-replicate}
use Rattle.std.specs.List.{copy_within}
use borrow.Rule.Slice.PartMut.{put_mid}
use Rattle.lists.specs.Lists.{written}
use Rattle.words.specs.WordContracts.{moved_right}
use Rattle.laws.specs.Splice.{inserted, removed}

-- ---- std's writes
-- a part of a slice, written whole, is `written`
pub put_mid_written : (s v : List ℕ) (at k : ℕ) → length v ≡ k → put_mid at k s v ≡ written s at v
unfolding written
put_mid_written s v at k e = rw (e, append_assoc) (ap (λ r. take at s ++ (v ++ r)) (drop-drop k at s))

-- `copy_within` is `written` too
pub copy_within_written : (s : List ℕ) (from e to n : ℕ) → e ≡ from + n → e ≤ length s → copy_within s from e to ≡ written s to (take n (drop from s))
unfolding written
copy_within_written s from e to n h k =
    let l : length (take n (drop from s)) ≡ n = length-take-le n (drop from s) (simp length-drop (omega arith)) in
    let m : e - from ≡ n = omega arith in
    rw (l, m)

-- all but the last w moved by `copy_within`
pub copy_within_right : (p : List ℕ) (w : ℕ) → w ≤ length p → copy_within p 0 (length p - w) w ≡ moved_right p w
unfolding moved_right
copy_within_right p w h =
    let e : drop (w + (length p - w)) p ≡ [] = drop_of_length-le p (omega arith) in
    simp (sub-zero, e, append-nil)

-- ---- a move and a write after it
-- what a gap and a write into it leave
pub insert_all : (s t : List ℕ) (at e : ℕ) (v : List ℕ) → t ≡ moved_right (take (e + length v - at) (drop at s)) (length v) → at ≤ e → e + length v ≤ length s
    → written (put_mid at (e + length v - at) s t) at v ≡ inserted s at e v
unfolding moved_right written inserted
insert_all s t at e v f h k =
    let m : ℕ = e + length v - at in
    let q : List ℕ = take m (drop at s) in
    let lq : length q ≡ m = length-take-le m (drop at s) (simp length-drop (omega arith)) in
    let la : length (take at s) ≡ at = length-take-le at s (omega arith) in
    let lv : length (take (length v) q) ≡ length v = length-take-le (length v) q (omega arith) in
    let n : length q - length v ≡ e - at = omega arith in
    let f' : t ≡ take (length v) q ++ take (e - at) (drop at s) = f ∙ ap (λ (k : ℕ). take (length v) q ++ take k q) n ∙ ap (λ (l : List ℕ). take (length v) q ++ l) (take-take (e - at) m (drop at s) (omega arith)) in
    let j : at + m ≡ e + length v = omega arith in
    let r : drop m (drop at s) ≡ drop (e + length v) s = drop-drop m at s ∙ ap (λ (k : ℕ). drop k s) j in
    let x : drop (at + length v) (take at s ++ (t ++ drop m (drop at s))) ≡ take (e - at) (drop at s) ++ drop (e + length v) s =
    sym (drop-drop (length v) at (take at s ++ (t ++ drop m (drop at s))))
    ∙ ap (drop (length v)) (drop_at (take at s) (t ++ drop m (drop at s)) at la)
    ∙ rw (f', r, append_assoc) (drop_at (take (length v) q) (take (e - at) (drop at s) ++ drop (e + length v) s) (length v) lv) in
    rw (x, take_at (take at s) (t ++ drop m (drop at s)) at la) (simp append_assoc)

-- what a copy to the left and the clearing behind it leave
pub remove_all : (s t u : List ℕ) (at w e : ℕ) → t ≡ written s at (take (e - (at + w)) (drop (at + w) s)) → u ≡ replicate w 0 ++ drop w (take (e - (at + (e - (at + w)))) (drop (at + (e - (at + w))) t)) → at + w ≤ e → e ≤ length s
    → put_mid (at + (e - (at + w))) (e - (at + (e - (at + w)))) t u ≡ removed s at w e
unfolding written removed
remove_all s t u at w e f g h k =
    let n : ℕ = e - (at + w) in
    let v : List ℕ = take n (drop (at + w) s) in
    let lv : length v ≡ n = length-take-le n (drop (at + w) s) (simp length-drop (omega arith)) in
    let la : length (take at s) ≡ at = length-take-le at s (omega arith) in
    let lp : length (take at s ++ v) ≡ at + n = simp length-append (omega arith) in
    let a : take (at + n) t ≡ take at s ++ v = rw f (take_at (take at s ++ v) (drop (at + length v) s) (at + n) lp) in
    let b : drop (at + n) t ≡ drop (at + n) s = rw (f, lv) (drop_at (take at s ++ v) (drop (at + n) s) (at + n) lp) in
    let m : e - (at + n) ≡ w = omega arith in
    let j : at + n + w ≡ e = omega arith in
    let lt : length (take w (drop (at + n) s)) ≤ w = simp (length-take, length-drop) (omega arith) in
    let z : drop w (take w (drop (at + n) s)) ≡ [] = drop_of_length-le (take w (drop (at + n) s)) lt in
    let r : drop w (drop (at + n) s) ≡ drop e s = drop-drop w (at + n) s ∙ ap (λ (k : ℕ). drop k s) j in
    rw (g, a, b, m, z, r) (simp (append_assoc, append-nil))

-- what is taken out by a move over it, the freed numbers written over
pub written_freed : (s : List ℕ) (at w e : ℕ) (h : at + w ≤ e) (k : e ≤ length s) (v : List ℕ) → length v ≡ w
    → written s at (take (e - (at + w)) (drop (at + w) s) ++ v) ≡ written (removed s at w e) (e - w) v
unfolding written removed
written_freed s at w e h k v q =
    let p : List ℕ = take (e - (at + w)) (drop (at + w) s) in
    let lm : length p ≡ e - (at + w) = length-take-le (e - (at + w)) (drop (at + w) s) (simp length-drop (omega arith)) in
    let z : length (replicate {A = ℕ} w 0) ≡ w = length-replicate w 0 in
    let a : length (take at s) ≡ at = length-take-le at s (omega arith) in
    let b : length (take at s ++ p) ≡ e - w = rw (length-append, lm, a) (omega arith) in
    let d : length (take at s ++ p ++ replicate w 0) ≡ e - w + length v = rw (length-append, b, z) (omega arith) in
    let m : at + length (p ++ v) ≡ e = rw (length-append, lm) (omega arith) in
    let f : drop (e - w + length v) (take at s ++ p ++ replicate w 0 ++ drop e s) ≡ drop e s = drop_at (take at s ++ p ++ replicate w 0) (drop e s) (e - w + length v) d in
    let g : take (e - w) (take at s ++ p ++ replicate w 0 ++ drop e s) ≡ take at s ++ p =
    rw (append_assoc (take at s ++ p) (replicate w 0) (drop e s)) (take_at (take at s ++ p) (replicate w 0 ++ drop e s) (e - w) b) in
    rw (m, f, g) (simp append_assoc)
