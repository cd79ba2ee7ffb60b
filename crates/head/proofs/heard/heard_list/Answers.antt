-- The heard list of a head into a buffer of the right length.
use mathlib.Core.Path.{refl}
use borrow.Author.Rules.{rules}
use Rattle.head.proofs.HeardLists.{heard_list_lem}
use Rattle.head.proofs.heard.heard_list.Goals as goal

pub returns : goal.returns
returns c =
    let x = c.args.x.now in
    let gathered = c.gather-count in
    let put = c.put_records in
    heard_list_lem _ _ _ _ _ x.framed refl refl _ refl _ _ _ gathered.ensures.0 (search rules) gathered.ensures.1
    c.in_order.ensures _ _ _ c.requires put.auto.bytes put.ensures c.clear_from.ensures
