-- The contracts say the definitions that demand 3 speaks of (specs/Tied.antt).
use Rattle.carried.specs.Tied.{Tied}

pub tied : Tied
tied =
    record {
      digit_sender = λ κs a x s p. p;
      digit_send = λ κs a x s p. p.0;
      digit_sender_after = λ κs a x s p. p.1;
      digits_put = λ κs a x s p. p.0;
      digits_left = λ κs a x s p. p.1;
      digit_receiver = λ κs a x s p. p;
      digit_receive = λ κs a x s p. p.0;
      digit_receiver_after = λ κs a x s p. p.1;
      hear_voice = λ κs a x s p. p;
      start = λ κs a x s p. p;
      signalling_send = λ κs a x s p. p.0;
      signalling_sender_after = λ κs a x s p. p.1;
      signalling_put = λ κs a x s p. p.0;
      signalling_left = λ κs a x s p. p.1;
      signalling_receiver = λ κs a x s p. p;
      signalling_receive = λ κs a x s p. p.0;
      signalling_receiver_after = λ κs a x s p. p.1;
      trunk = λ κs a x s p. p;
      take = λ κs a x s p. p.0;
      trunk_after = λ κs a x s p. p.1;
    }
