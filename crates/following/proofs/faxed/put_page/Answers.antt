-- `following::faxed::put_page` meets its contract: the octets that are handed on.
use Prim.Native.Nat.{ℕ, min, ◌≤◌}
use mathlib.Core.Path.{◌≡◌, ap, ◌∙◌}
use native.Mathlib.Omega.{arith}
use lib.ListN.{length, take}
use lib.Seq.{length-take-le}
use Rattle.octets.specs.Text.{ascii}
use Rattle.printing.proofs.Appending as appending
use Rattle.following.specs.Following.{page_line}
use Rattle.following.proofs.Lines as lines
use Rattle.following.proofs.faxed.put_page.Goals as goal

pub returns : goal.returns
returns c = let a = c.args in let few : c.least-end.result ≤ length a.page.now = omega (arith, c.least-end.ensures, c.requires.page_len) in let size = length-take-le c.least-end.result a.page.now few in let line = appending.then-hex-field (appending.none a.out.now a.at) (ascii "octets=") (take c.least-end.result a.page.now) (omega (arith, size, few, c.requires.page_len, c.requires.at_in_bounds)) (c.put_hex_field.ensures.answer, c.put_hex_field.ensures.holds) in let is : take c.least-end.result a.page.now ≡ take a.count a.page.now = ap (λ (k : ℕ). take k a.page.now) (c.least-end.ensures ∙ ap (λ (k : ℕ). min k 72) c.wide.ensures) ∙ lines.handed-on a.count a.page.now c.requires.page_len in appending.within (appending.reads line (ap page_line is)) 152 (omega (arith, size, few, c.requires.page_len))
