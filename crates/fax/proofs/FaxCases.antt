-- What `fax_read` and `fax_made` give in each of their cases.
use Prim.Native.Nat.{ℕ, ◌+◌, ◌-◌, ◌/◌, ◌%◌, ◌<◌, ◌≤◌}
use mathlib.Core.Path.{◌≡◌, refl, sym, ap, ◌∙◌}
use mathlib.Core.List.{List, [], ◌∷◌, ◌++◌}
use mathlib.Core.Logic.{⊎_elim}
use mathlib.Core.Bool.{Bool, true, false, not, ◌&&◌}
use native.Mathlib.Omega.{arith}
use borrow.Author.Tests.{lt-ltb, le-ltb, ne_eqb, not-false, ltb-false}
use lib.Dec.{ltb, eqb}
use lib.ListN.{length, take, length-append}
use Rattle.std.specs.declared.option.Option.{Option}
use Rattle.std.specs.declared.option.Option.TheVariants.{None, Some}
use Rattle.std.specs.declared.result.Result.{Result}
use Rattle.std.specs.declared.result.Result.TheVariants.{Ok, Err}
use Rattle.refusal.specs.declared.Refusal.{Refusal}
use Rattle.refusal.specs.declared.Refusal.TheVariants.{LengthWrong, ReservedCode}
use Rattle.refusal.specs.Order.{Test, ◌gives◌}
use Rattle.octets.specs.Made.{made, unmade}
use Rattle.octets.proofs.Order.{lt-or-le, clash}
use Rattle.octets.proofs.MadeBack.{never-made}
use Rattle.fax.specs.declared.Command.{Command}
use Rattle.fax.specs.declared.Command.TheVariants.{On}
use Rattle.fax.specs.declared.Fax.{Fax}
use Rattle.fax.specs.Fax.{first_octet, on_octet, tone_refused, code_of, command_of, ei1_in, on_in, time_in, head_octets, front_of, sequence_in, code_in, stamp_in, ei2_in, zero_bits_in, command_in, unstamped, body_sized, refused_on, read_refusals, fax_read, stamp_number, write_refusals, fax_made}
use Rattle.fax.proofs.Commands.{Plain, plain, plain-front, code-back}
use Rattle.refusal.proofs.Order.{Stops, here, past, Passes, stopped, sounds, passed}

-- what a payload with these parts tells
abbrev pub told : ℕ → Option ℕ → Command → ℕ → Result Fax Refusal
told sequence stamp command front = Ok (record { sequence = sequence; stamp = stamp; command = command; front = front })

module _ (p : List ℕ) (stamp : Option ℕ) (command : Command) (st : stamp_in p ≡ stamp) (co : command_in p ≡ command) where
  stops : {refusal : Refusal} → Stops (read_refusals p stamp command) refusal → fax_read p ≡ Err refusal
  unfolding fax_read
  stops s = rw (st, co) (stopped Err _ s)

  pub sound : Passes (read_refusals p stamp command) → fax_read p ≡ told (sequence_in p) stamp command (front_of stamp command)
  unfolding fax_read
  sound all = rw (st, co) (sounds Err _ (read_refusals p stamp command) all)

some-octets : (p : List ℕ) → 0 < length p → eqb (length p) 0 ≡ false
some-octets p some = ne_eqb (length p) 0 (λ e. omega arith)

code_is : (p : List ℕ) → code_in p ≤ 4 → code_of (command_in p) ≡ code_in p
code_is p known = code-back (code_in p) _ _ _ known

pub lacks : (p : List ℕ) → 0 < length p → code_in p ≤ 4 → ei1_in p ≡ false → ltb (code_in p) 2 ≡ true → fax_read p ≡ Err ReservedCode
lacks p some known bare few =
    let none : ltb (code_of (command_in p)) 2 ≡ true = rw (code_is p known) few in
    stops p None (command_in p) (rw bare) refl (past (some-octets p some) (past (le-ltb 4 (code_in p) known) (here none)))

-- a payload of which the length is to be looked at
pub record Fronted (p : List ℕ) (stamp : Option ℕ) (command : Command) (front : ℕ) : Type 0 where
  pub some : 0 < length p
  pub known : code_in p ≤ 4
  pub st : stamp_in p ≡ stamp
  pub co : command_in p ≡ command
  pub stamped : unstamped stamp command ≡ false
  pub front-is : front_of stamp command ≡ front

module _ {p : List ℕ} {stamp : Option ℕ} {command : Command} {front : ℕ} (f : Fronted p stamp command front) where
  tells : {refusal : Refusal} → Stops (read_refusals p stamp command) refusal → fax_read p ≡ Err refusal
  tells s = stops p stamp command f.st f.co s

  -- past the first octet
  begun : {ts : List Test} {refusal : Refusal}
      → Stops ts refusal
      → Stops (eqb (length p) 0 gives LengthWrong ∷ ltb 4 (code_in p) gives ReservedCode ∷ unstamped stamp command gives ReservedCode ∷ ts) refusal
  begun s = past (some-octets p f.some) (past (le-ltb 4 (code_in p) f.known) (past f.stamped s))

  pub cut : length p < front → fax_read p ≡ Err LengthWrong
  cut h = tells (begun (here (rw f.front-is (lt-ltb (length p) front h))))

  module _ (whole : front ≤ length p) where
    long : ltb (length p) (front_of stamp command) ≡ false
    long = rw f.front-is (le-ltb (length p) front whole)

    pub wrong : body_sized command (length p - front) ≡ false → fax_read p ≡ Err LengthWrong
    wrong h = tells (begun (past long (here (rw (f.front-is, h)))))

    module _ (sized : body_sized command (length p - front) ≡ true) where
      fits : not (body_sized command (length p - front_of stamp command)) ≡ false
      fits = rw (f.front-is, sized)

      pub ei2-set : ei2_in p ≡ true → fax_read p ≡ Err ReservedCode
      ei2-set h = tells (begun (past long (past fits (here h))))

      module _ (clear : ei2_in p ≡ false) where
        pub bits-set : (eqb (code_in p) 1 && ltb 0 (zero_bits_in p)) ≡ true → fax_read p ≡ Err ReservedCode
        bits-set h = tells (begun (past long (past fits (past clear (here h)))))

        module _ (free : (eqb (code_in p) 1 && ltb 0 (zero_bits_in p)) ≡ false) where
          pub refused : refused_on command ≡ true → fax_read p ≡ Err ReservedCode
          refused h = tells (begun (past long (past fits (past clear (past free (here h))))))

          pub right : refused_on command ≡ false → fax_read p ≡ told (sequence_in p) stamp command front
          right h =
              sound p stamp command f.st f.co
              (some-octets p f.some, (le-ltb 4 (code_in p) f.known, (f.stamped, (long, (fits, (clear, (free, (h, tt))))))))
              ∙ ap (told (sequence_in p) stamp command) f.front-is

-- the command on: six octets
module _ (p : List ℕ) (some : 0 < length p) (one : code_in p ≡ 1) (ei1 : ei1_in p ≡ true) where
  pub on-fronted : Fronted p (Some (time_in p)) (on_in p) 6
  unfolding front_of command_of
  on-fronted = record { some = some; known = omega arith; st = rw ei1; co = rw one; stamped = refl; front-is = refl }

  pub not-six : (length p ≡ 6 → ⊥) → fax_read p ≡ Err LengthWrong
  unfolding body_sized
  not-six h =
      ⊎_elim (λ less. cut on-fronted less) (λ least. wrong on-fronted least (ne_eqb (length p - 6) 0 (λ e. h (omega arith)))) (lt-or-le (length p) 6)

  module _ (six : length p ≡ 6) where
    sized : body_sized (on_in p) (length p - 6) ≡ true
    unfolding body_sized
    sized = rw six

    pub on-ei2 : ei2_in p ≡ true → fax_read p ≡ Err ReservedCode
    on-ei2 h = ei2-set on-fronted (omega arith) sized h

    module _ (clear : ei2_in p ≡ false) where
      pub on-bits : (zero_bits_in p ≡ 0 → ⊥) → fax_read p ≡ Err ReservedCode
      on-bits h = bits-set on-fronted (omega arith) sized clear (simp (one, lt-ltb 0 (zero_bits_in p) (omega arith)))

      module _ (zeros : zero_bits_in p ≡ 0) where
        pub on-refused : refused_on (on_in p) ≡ true → fax_read p ≡ Err ReservedCode
        on-refused h = refused on-fronted (omega arith) sized clear (simp (one, zeros)) h

        pub on-right : refused_on (on_in p) ≡ false → fax_read p ≡ told (sequence_in p) (Some (time_in p)) (on_in p) 6
        on-right h = right on-fronted (omega arith) sized clear (simp (one, zeros)) h

-- a command that has no octets of its own, without a stamp and with it
module _ (p : List ℕ) (some : 0 < length p) (known : code_in p ≤ 4) (other : code_in p ≡ 1 → ⊥) (command : Command)
    (is : (on : Command) → command ≡ command_of (code_in p) on) where
  code : code_of command ≡ code_in p
  code = ap code_of (is (on_in p)) ∙ code_is p known

  has : Plain command
  has = plain command (λ e. other (sym code ∙ e))

  pub bare-fronted : ei1_in p ≡ false → ltb (code_in p) 2 ≡ false → Fronted p None command 1
  bare-fronted ei1 h =
      record {
        some = some;
        known = known;
        st = rw ei1;
        co = sym (is (on_in p));
        stamped = rw code h;
        front-is = plain-front None command has;
      }

  pub stamped-fronted : ei1_in p ≡ true → Fronted p (Some (time_in p)) command 3
  stamped-fronted ei1 =
      record {
        some = some;
        known = known;
        st = rw ei1;
        co = sym (is (on_in p));
        stamped = refl;
        front-is = plain-front (Some (time_in p)) command has;
      }

  -- the tests of the command on
  pub plain-right : {stamp : Option ℕ} {front : ℕ}
      → Fronted p stamp command front
      → front ≤ length p
      → body_sized command (length p - front) ≡ true
      → ei2_in p ≡ false
      → fax_read p ≡ told (sequence_in p) stamp command front
  plain-right f whole sized clear = right f whole sized clear (simp (ne_eqb (code_in p) 1 other)) has.taken

-- what is made passed every test
pub record Passed (sequence : ℕ) (stamp : Option ℕ) (command : Command) (body : List ℕ) : Type 0 where
  pub stamped : unstamped stamp command ≡ false
  pub sized : body_sized command (length body) ≡ true
  pub taken : refused_on command ≡ false
  pub four_bits : sequence ≤ 15
  pub in-range : stamp_number stamp ≤ 32767

module _ (sequence : ℕ) (stamp : Option ℕ) (command : Command) (body : List ℕ) where
  pub made-right :
      unstamped stamp command ≡ false
      → body_sized command (length body) ≡ true
      → refused_on command ≡ false
      → sequence ≤ 15
      → stamp_number stamp ≤ 32767
      → fax_made sequence stamp command body ≡ made (head_octets sequence stamp command ++ body)
  unfolding fax_made
  made-right stamped sized taken four_bits in-range =
      sounds unmade _ (write_refusals sequence stamp command body)
      (stamped, (rw sized, (taken, (le-ltb 15 sequence four_bits, (le-ltb 32767 (stamp_number stamp) in-range, tt)))))

  pub is_made : Passed sequence stamp command body → fax_made sequence stamp command body ≡ made (head_octets sequence stamp command ++ body)
  is_made p = made-right p.stamped p.sized p.taken p.four_bits p.in-range

  pub passed-all : (octets : List ℕ) → fax_made sequence stamp command body ≡ made octets → Passed sequence stamp command body
  unfolding fax_made
  passed-all octets e =
      let tests =
      (passed unmade _ (write_refusals sequence stamp command body) (made octets) (λ n r. never-made (unmade n) n octets refl r) e).0
      in
      record {
        stamped = tests.0;
        sized = not-false _ tests.1.0;
        taken = tests.1.1.0;
        four_bits = ltb-false 15 sequence tests.1.1.1.0;
        in-range = ltb-false 32767 (stamp_number stamp) tests.1.1.1.1.0;
      }

pub head-size : (sequence : ℕ) (stamp : Option ℕ) (command : Command) → length (head_octets sequence stamp command) ≡ front_of stamp command
unfolding front_of
head-size sequence stamp command = simp length-append (omega arith)

pub made_size :
    (sequence : ℕ) (stamp : Option ℕ) (command : Command) (body : List ℕ)
    → length (head_octets sequence stamp command ++ body) ≡ front_of stamp command + length body
unfolding front_of
made_size sequence stamp command body = simp length-append (omega arith)

-- the octets in front, out of an array of six
pub on-head :
    (sequence : ℕ) (stamp : Option ℕ) (hdlc : Bool) (modulation frequency : ℕ)
    → unstamped stamp (On hdlc modulation frequency) ≡ false
    → let command = On hdlc modulation frequency in
    let time = stamp_number stamp in
    take (front_of stamp command)
    (first_octet sequence stamp command ∷ (time % 256) ∷ (time / 256) ∷ on_octet hdlc modulation ∷ (frequency % 256) ∷ (frequency / 256) ∷ [])
    ≡ head_octets sequence stamp command
unfolding front_of
on-head sequence None h m f stamped = clash true refl stamped
on-head sequence (Some time) h m f stamped = refl

pub plain-head :
    (sequence : ℕ) (stamp : Option ℕ) (command : Command)
    → Plain command
    → let time = stamp_number stamp in
    take (front_of stamp command) (first_octet sequence stamp command ∷ (time % 256) ∷ (time / 256) ∷ 0 ∷ 0 ∷ 0 ∷ []) ≡ head_octets sequence stamp command
plain-head sequence None command p = rw (plain-front None command p, p.none)
plain-head sequence (Some time) command p = rw (plain-front (Some time) command p, p.none)

-- the modulation of a command that is not refused
pub modulation-small : (modulation frequency : ℕ) → tone_refused modulation frequency ≡ false → modulation ≤ 11
unfolding tone_refused
modulation-small m f free =
    ⊎_elim (λ h. clash (tone_refused m f) (simp (lt-ltb 11 m h)) free) (λ h. h) (lt-or-le 11 m)
