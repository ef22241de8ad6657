-- `counts::step_round` meets its contract: the masked difference is the step.
use Rattle.std.proofs.Common.{◌≡◌, ℕ, ◌+◌, ◌-◌, ◌%◌, ◌<◌, ◌∙◌, arith, mod-eq_of_lt}
use native.Mathlib.Nat.{mod-add-mod, add-mod_right}
use Rattle.counts.proofs.Laws.{step-masked}
use Rattle.counts.proofs.step_round.Goals as goal

-- the difference round 2 ^ 16, added to what was taken off
whole : (last new : ℕ) → last < 65536 → new < 65536 → ((new + (65536 - last)) % 65536 + last) % 65536 ≡ new
whole last new less less2 =
    let sum : new + (65536 - last) + last ≡ new + 65536 = omega arith in
    mod-add-mod (new + (65536 - last)) 65536 last ∙ rw sum (add-mod_right new 65536 ∙ mod-eq_of_lt less2)

pub returns : goal.returns
returns c = c.round.ensures ∙ step-masked c.args.bits c.requires _ c.args.last c.args.new (whole c.args.last c.args.new c.ranges.last.fits c.ranges.new.fits)
