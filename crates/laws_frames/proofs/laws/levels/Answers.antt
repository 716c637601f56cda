use Rattle.laws_frames.proofs.Handing.{call_does}
use Rattle.laws_frames.proofs.laws.levels.Goals as goal

pub returns : goal.returns
returns c image program is n w live high slot ws turns st m body x there here back low under deep at = call_does image program is high m n w live slot ws turns st body x there here back low under deep at
