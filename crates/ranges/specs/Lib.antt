pub mod Inside
pub mod RangedIsInside
pub mod UnitByCurve
