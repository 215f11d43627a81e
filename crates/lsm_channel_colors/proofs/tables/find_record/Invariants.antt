use Prim.Native.Nat.{◌-◌}
use mathlib.Core.Path.{◌≡◌}
use Rattle.lsm_format.specs.Code.{order_of}
use Rattle.lsm_format.specs.Channels.{record_of}
use Rattle.lsm_channel_colors.proofs.tables.find_record.Given as goal

-- the record is the one that as many further on as are left to pass
abbrev pub invariant-loop : goal.invariant-loop
invariant-loop l = record_of (order_of l.endian) l.buf l.fn.first l.channel ≡ record_of (order_of l.endian) l.buf l.place (l.channel - l.counter)
