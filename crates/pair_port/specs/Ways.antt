-- What a port tells that goes two ways: by one port to addresses, by another to images.
use Rattle.std.specs.Prelude.{◌+◌, None, IsFalse}
use Rattle.wire_told.specs.Places.{Stands, ImageAt, TcpAt}
use Rattle.wire_told.specs.Ports.{PortTold}
use Rattle.pair_port.specs.declared.any_port.Way.{Way}
use Rattle.pair_port.specs.declared.any_port.Way.TheVariants.{Address, Image}

-- both ports, and the way that is taken
pub record Ways (A I : Type 0) : Type 0 where
  pub addresses : A
  pub images : I
  pub way : Way

-- what images stand for is told as it was, and of an address nothing is
abbrev pub of_images : Stands → Stands
of_images stands (ImageAt path) = stands (ImageAt path)
of_images stands (TcpAt host port) = None

-- the port of the way
abbrev pub turned : Way → PortTold → PortTold → PortTold
turned Address addresses images = addresses
turned Image addresses images = images

-- the port of the other way
abbrev pub other : Way → PortTold → PortTold → PortTold
other Address addresses images = images
other Image addresses images = addresses

-- What a port tells beside another one: its device and its connection, what both count, and what is honest of
-- both. Bytes that the other sent or heard aren't told, and so none are.
abbrev pub beside : PortTold → PortTold → Stands → PortTold
beside port rest stands = record port {
  stands = stands;
  heard = None;
  log = None;
  faults = port.faults + rest.faults;
  ends = port.ends + rest.ends;
  honest = port.honest × rest.honest;
}

-- what is told on a way
abbrev pub told_on : Way → PortTold → PortTold → PortTold
told_on way addresses images =
    beside (turned way addresses images) (other way addresses images) (of_images images.stands)

-- no connection is up on the other way
abbrev pub IsAlone : Way → PortTold → PortTold → Type 0
IsAlone way addresses images = IsFalse (other way addresses images).up
