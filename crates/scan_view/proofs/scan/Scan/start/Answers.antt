use Rattle.std.proofs.Common.{◌++◌, Some, false, true, subst, sym}
use Rattle.std.proofs.lemmas.List.Elements.{Contains-append_left, Contains-append_right}
use Rattle.page_file.specs.Component.{numbers_of}
use Rattle.scan_view.specs.Splice.{HasReadSplice, HasSplice, IsIn, ReadsIn}
use Rattle.scan_view.proofs.ReadLemmas.{read_started}
use Rattle.scan_view.proofs.ScanLemmas.{front_sorted, started_left, list_sorted}
use Rattle.scan_view.proofs.scan.Scan.start.Goals as goal

pub returns-clause-list : goal.returns-clause-list
returns-clause-list c = λ sizes lists file front c1 c1x c2.
    let ls = numbers_of front.1.pages in
    let ns = numbers_of c1.pages in
    let ms = numbers_of c1x.pages in
    let ks = numbers_of c2.pages in
    record {
      released_is = c.start.ensures.released;
      c1 = c.start.ensures.list sizes c.args.at lists.front lists.c1 (ls ++ ns ++ ms ++ ks) file front c1
          (λ n has. Contains-append_left (ls ++ ns ++ ms) ks n (Contains-append_left (ls ++ ns) ms n (Contains-append_left ls ns n has)))
          (λ n has. Contains-append_left (ls ++ ns ++ ms) ks n (Contains-append_left (ls ++ ns) ms n (Contains-append_right ls ns n has)));
      c1x = started_left sizes c.args.c1x.now c.args.at c.start-2.result lists.c1x (ls ++ ns ++ ms ++ ks) file c.start-2.ensures.cursor
          c.start-2.ensures.here c1x (c.start-2.ensures.list sizes lists.c1x file c1x)
          (λ n has. Contains-append_left (ls ++ ns ++ ms) ks n (Contains-append_right (ls ++ ns) ms n has));
      c2 = started_left sizes c.args.c2.now c.args.at c.start-3.result lists.c2 (ls ++ ns ++ ms ++ ks) file c.start-3.ensures.cursor
          c.start-3.ensures.here c2 (c.start-3.ensures.list sizes lists.c2 file c2)
          (λ n has. Contains-append_right (ls ++ ns ++ ms) ks n has);
      sorted = record {
        front = front_sorted sizes c.args.front.now lists.front file front;
        c1 = list_sorted sizes c.args.c1.now lists.c1 file c1;
        c1x = list_sorted sizes c.args.c1x.now lists.c1x file c1x;
        c2 = list_sorted sizes c.args.c2.now lists.c2 file c2;
      };
    }

pub returns-clause-read : goal.returns-clause-read
returns-clause-read c = λ sizes file. record {
  released = c.start.ensures.released;
  paged = c.requires.c1;
  c1 = c.start.ensures.read sizes c.args.at file;
  c1x = read_started false sizes file c.args.c1x.now c.args.at c.start-2.result c.start-2.ensures.cursor c.start-2.ensures.here
      (c.start-2.ensures.given sizes file);
  c2 = read_started false sizes file c.args.c2.now c.args.at c.start-3.result c.start-3.ensures.cursor c.start-3.ensures.here
      (c.start-3.ensures.given sizes file);
}
