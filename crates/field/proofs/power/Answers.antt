use Rattle.std.proofs.Common.{refl}
use Rattle.field.specs.Bytes.{bytes}
use Rattle.field.proofs.Tables.{power_entry, bytes_laws}
use Rattle.field.proofs.power.Goals as goal

pub returns : goal.returns
unfolding bytes
returns c = record { value = power_entry c.args.k; alpha = refl; laws = bytes_laws }
