use Rattle.std.proofs.Common.{true, refl}
use Rattle.scan_view.proofs.ReadLemmas.{read_started}
use Rattle.scan_view.proofs.ScanLemmas.{front_left}
use Rattle.scan_view.proofs.splice.Splice.start.Goals as goal

pub returns-clause-list : goal.returns-clause-list
returns-clause-list c = λ sizes at of_front of_c1 pages file front c1 among_front among_c1. record {
  left = front_left sizes c.args.front.now at c.start_front.result of_front pages file front.0 c.start_front.ensures.cursor c.start_front.ensures.here
      front.1 (c.start_front.ensures.list sizes front.0 of_front file front.1) among_front;
  list = c1;
  among = among_c1;
}

pub returns-clause-read : goal.returns-clause-read
returns-clause-read c = λ sizes at file. record {
  c1_is = refl;
  read = read_started true sizes file c.args.front.now at c.start_front.result c.start_front.ensures.cursor c.start_front.ensures.here
      (c.start_front.ensures.given sizes file);
  none = refl;
}
