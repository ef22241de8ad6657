-- The worked runs of specs/Examples.antt, by computing.
use mathlib.Core.Path.{refl}
use Rattle.fax.specs.Fax.{front_of, command_of, is_page, body_sized, tone_refused, fax_read}
use Rattle.faxing.specs.Replay.{acting, taken_by, received}
use Rattle.faxing.specs.Examples.{Worked}

pub worked : Worked
unfolding received taken_by acting fax_read front_of command_of is_page body_sized tone_refused
worked =
    record {
      every_payload = refl;
      two_lost_first = refl;
      two_lost_last = refl;
      three_lost = refl;
      four_lost_before_an_end = refl;
      aborts = refl;
      three_lost_before_an_end = refl;
      out_of_place = refl;
      at_twelve_octets = refl;
      single_tone = refl;
      another_stamp = refl;
      same_on = refl;
    }
