-- The bench examples hold, by computing.
use mathlib.Core.Path.{refl}
use Rattle.header.specs.Header.{told, header_at}
use Rattle.frame.specs.Opening.{scan, scanned, opening}
use Rattle.joining.specs.Joining.{shortest_header, joined}
use Rattle.digits.specs.Layout.{digits_made}
use Rattle.signalling.specs.Layout.{halves, signalling_read}
use Rattle.seized.specs.Receiver.{received}
use Rattle.data.specs.Data.{data_made}
use Rattle.fax.specs.Fax.{front_of, body_sized, tone_refused, fax_made}
use Rattle.bench.specs.Examples.{Hold, examples}

pub hold : Hold
unfolding examples told header_at scan scanned opening shortest_header joined digits_made halves signalling_read received data_made front_of body_sized tone_refused fax_made
hold = refl
