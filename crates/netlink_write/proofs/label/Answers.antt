-- The closing zero stands behind the label in the row.
use Rattle.netlink_put.proofs.Pieces.{with_payload}
use Rattle.netlink_write.proofs.Address.{label-room, label-part, label-payload, label-bound}
use Rattle.netlink_write.proofs.label.Goals as goal

pub slice_bounds-bytes-end : goal.slice_bounds-bytes-end
slice_bounds-bytes-end c = label-room c.args.row.now c.requires.fit c.fits-row c.bytes_of.ensures

pub slice_bounds-attribute-end : goal.slice_bounds-attribute-end
slice_bounds-attribute-end c = label-part c.args.row.now c.requires.fit c.fits-row c.bytes_of.ensures

pub returns-clause-bound : goal.returns-clause-bound
returns-clause-bound c = label-bound c.args.row.now c.requires.fit

pub returns-clause-text : goal.returns-clause-text
returns-clause-text c =
    with_payload (label-payload c.args.row.now c.requires.fit c.fits-row c.bytes_of.ensures) c.attribute.ensures.text
