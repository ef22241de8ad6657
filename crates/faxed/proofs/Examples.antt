-- The worked runs of specs/Examples.antt, by computing.
use mathlib.Core.Path.{refl}
use native.Mathlib.Omega.{arith}
use Rattle.fax.specs.Fax.{front_of, command_of, is_page, body_sized, tone_refused, fax_read, fax_made}
use Rattle.payload.specs.Layout.{on_voice}
use Rattle.faxing.specs.Replay.{acting, taken_by, received}
use Rattle.faxed.specs.Run.{ones, all, gone, came, some}
use Rattle.faxed.specs.Session.{over, frames, page}
use Rattle.faxed.specs.Examples.{call, page_call, tone_call, Sent, Met, TrunkMet, PagesMet, SessionMet, Worked}

pub met : Met
unfolding fax_made is_page body_sized tone_refused
met = (
  record { begun = omega arith; stopped = omega arith; tone = refl; stamps = (omega arith, (omega arith, (omega arith, (omega arith, (omega arith, tt))))); closed = refl },
  some 0 (came (gone {lost = 0} (omega arith) (gone {lost = 1} (omega arith) (came (some 1 (some 0 all)))))),
)

pub trunk-met : TrunkMet
unfolding fax_made is_page body_sized tone_refused on_voice
trunk-met = some 0 (came (gone {lost = 0} (omega arith) (gone {lost = 1} (omega arith) (came (some 0 (some 0 all))))))

pub pages-met : PagesMet
unfolding tone_refused
pages-met = (
  record { begun = omega arith; stopped = omega arith; tone = refl; sized = (omega arith, refl, omega arith, (omega arith, refl, omega arith, (omega arith, refl, omega arith, tt))); few = (omega arith, tt) },
  record { begun = omega arith; stopped = omega arith; tone = refl; sized = tt; few = tt },
)

pub session-met : SessionMet
session-met = page tone_call pages-met.1 (frames ones call met.0 met.1 (page page_call pages-met.0 over))

pub sent : Sent
unfolding fax_made is_page body_sized tone_refused
sent = refl

pub worked : Worked
unfolding received taken_by acting fax_read front_of command_of is_page body_sized tone_refused
worked =
    record {
      bound_is_sharp = refl;
      filler_after_a_lost_end = refl;
      filler_after_an_empty_frame = refl;
      off_and_on_lost = refl;
      late_data = refl;
      late_off = refl;
      late_end = refl;
      end_lost = refl;
      last_end_lost = refl;
      off_lost = refl;
      late_on = refl;
      frame_of_fifteen_lost = refl;
      frame_of_sixteen_lost = refl;
      sixteen_lost = refl;
      off_by_the_last_data = refl;
      off_behind_an_empty_frame = refl;
      fourteen_pages_lost = refl;
      fifteen_pages_lost = refl;
      sixteen_pages_lost = refl;
    }
