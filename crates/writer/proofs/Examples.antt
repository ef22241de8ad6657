-- The cases of specs/Examples.antt, by computing.
use mathlib.Core.Path.{refl}
use Rattle.voice.specs.Voice.{voice_made, body_octets, block_octets, front_of}
use Rattle.data.specs.Data.{data_made}
use Rattle.joining.specs.Joining.{shortest_header, header_size}
use Rattle.place.specs.Place.{channel_for, placed}
use Rattle.writer.specs.Writer.{writing}
use Rattle.writer.specs.Examples.{cases, Refusals}

pub refusals : Refusals
unfolding cases writing channel_for placed shortest_header header_size voice_made body_octets block_octets front_of data_made
refusals = refl
