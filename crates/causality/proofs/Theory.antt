-- The theorems of `specs/Theory.antt` hold of every history.
use Prim.Native.Nat.{ℕ, suc}
use native.Mathlib.Omega.{arith}
use Rattle.causality.specs.Event.{History}
use Rattle.causality.specs.Past.{here}
use Rattle.causality.specs.Messages.{Action}
use Rattle.causality.specs.Theory.{Theory, MessageTheory}
use Rattle.causality.proofs.Pasts.{past_le, past_trans, comparable, view_apart, view_joined}
use Rattle.causality.proofs.Clocks.{best_pasts, past_test, past_dec, latest_apart, latest_own, latest_max, latest_iff, latest_in_iff, latest_self}
use Rattle.causality.proofs.Agreement.{agree_sym, past_agree, last_agree, latest_agree}
use Rattle.causality.proofs.GoodPaths.{path_latest, path_best}
use Rattle.causality.proofs.Common.{common_event}
use Rattle.causality.proofs.Knowledge.{known_view, known_le, only_first_known, only_second_known, both_known, both_known_same, one_is_known, secondary, was_latest, unordered, ordered_heard, order_stays}
use Rattle.causality.proofs.MessagePasts.{past_iff_below}

pub theory : (h : History) → Theory h
theory h =
    record {
      past_refl = λ k. here {x = suc k} (omega arith);
      past_trans = λ x y z. past_trans;
      past_decided = past_test h;
      past_dec = past_dec h;
      comparable = λ r x y. comparable;
      past_le = λ x y. past_le;
      view_apart = λ n p x. view_apart;
      view_joined = λ n p x. view_joined;
      latest_apart = latest_apart h;
      latest_own = latest_own h;
      latest_first = λ n p r o f l. omega (arith, latest_max h n p r o f);
      latest_second = λ n p r o f l. omega (arith, latest_max h n p r o f);
      past_agree = λ g n x y a l. (past_agree a l, past_agree (agree_sym a) l);
      last_agree = λ g n p a. last_agree a p;
      latest_agree = λ g n p r a. latest_agree a p r;
      latest_iff = latest_iff h;
      latest_in_iff = latest_in_iff h;
      path_latest = path_latest h;
      path_best = path_best h;
      best_pasts = best_pasts h;
      common_event = λ n p q x. common_event h n p q;
      known_view = known_view h;
      known_le = known_le h;
      only_first_known = only_first_known h;
      only_second_known = only_second_known h;
      both_known = λ n p q r k l. (both_known_same h n p q r k l, both_known h n p q r k l);
      one_is_known = one_is_known h;
      secondary = secondary h;
      was_latest = was_latest h;
      own_row = latest_self h;
      unordered = unordered h;
      ordered_heard = ordered_heard h;
      order_stays = order_stays h;
    }

pub message_theory : (N : ℕ) (u : ℕ → Action) → MessageTheory N u
message_theory N u = record { past_iff_below = past_iff_below N u }
