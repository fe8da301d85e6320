-- Which lemma of proofs/RightOrder and proofs/Orders proves which clause: plainer as a table than as one line of paths.
use Rattle.cases.proofs.RightOrder.{one_right_order}
use Rattle.cases.proofs.Orders.{left_out, made_up, twice, against_time, against_read_of_first, against_read_of_written, against_look}
use Rattle.cases.proofs.wrong_orders_are_refused.Goals as goal

pub returns : goal.returns
returns c =
    record {
      right = one_right_order;
      all = left_out;
      only = made_up;
      once = twice;
      time = against_time;
      first = against_read_of_first;
      second = against_read_of_written;
      look = against_look;
    }
