-- The laws of `specs/Theory.antt` hold.
use Rattle.image.specs.Theory.{Theory}
use Rattle.image.proofs.Accepted.{accepted, checked_accepted, accepted_encode}
use Rattle.image.proofs.AcceptedMade.{accepted_made, label_bits}
use Rattle.image.proofs.MadeAccepted.{made_accepted}
use Rattle.image.proofs.Stages.{length_range, length_longest}
use Rattle.image.proofs.FreshTable.{fresh_bytes, fresh_accepted}

pub theory : Theory
theory =
    record {
      fresh_bytes = fresh_bytes;
      fresh_accepted = λ n own i j k l. checked_accepted (fresh_accepted n own i j k l);
      accepted_made = λ s n own e. accepted_made (accepted s _ e);
      made_accepted = λ n own t i j k l m. checked_accepted (made_accepted n own t i j k l m);
      accepted_encode = λ s n own e. accepted_encode (accepted s _ e);
      label_bits = λ s n own e. label_bits (accepted s _ e);
      length_most = λ n a b. (length_range n a b).1;
      length_longest = length_longest;
    }
