-- `seizing::windows_after` meets its contract: the newest twenty samples, then ten more.
use Prim.Native.Nat.{ℕ, ◌+◌, ◌≤◌}
use mathlib.Core.Path.{◌≡◌, ap, ap₂, ◌∙◌}
use mathlib.Core.List.{List, ◌++◌, append-nil}
use native.Mathlib.Omega.{arith}
use borrow.Author.Rules.{rules}
use lib.ListN.{length, drop, replicate, length-append, length-drop, drop_of_length-le}
use lib.Seq.{take_at, take_all}
use Rattle.octets.specs.Room.{written}
use Rattle.octets.proofs.Writes as writes
use Rattle.seizing.proofs.windows_after.Goals as goal

behind : (front samples : List ℕ) → length front ≡ 20 → length samples ≡ 10 → written (front ++ replicate 10 0) 20 samples ≡ front ++ samples
behind front samples twenty ten =
    let none : length (front ++ replicate 10 0) ≤ 20 + length samples = omega (arith, length-append front (replicate 10 0)) in
    ap₂ (λ (x y : List ℕ). x ++ samples ++ y) (take_at front (replicate 10 0) 20 twenty) (drop_of_length-le (front ++ replicate 10 0) none)
    ∙ append-nil (front ++ samples)

pub returns : goal.returns
returns c =
    let a = c.args in
    let first : List ℕ = c.copy_from_slice.new.self in
    let thirty : length a.windows ≡ 30 = search rules in
    let ten : length a.samples ≡ 10 = search rules in
    let twenty : length first ≡ 20 = c.copy_from_slice.ensures.len in
    let left = length-drop 10 a.windows in
    let front : first ≡ drop 10 a.windows = c.copy_from_slice.ensures.after ∙ take_all 20 (drop 10 a.windows) (omega arith) in
    let room = length-append first (replicate 10 0) in
    writes.copied (first ++ replicate 10 0) a.samples c.copy_from_slice-2.new.self 20 10 (omega arith) ten c.copy_from_slice-2.ensures.after
    ∙ behind first a.samples twenty ten
    ∙ ap (λ (l : List ℕ). l ++ a.samples) front
