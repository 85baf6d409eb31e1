pub mod Laws
pub mod Near
pub mod Figures
pub mod Sexagenary
pub mod Rounds
pub mod Days
pub mod Numbers
pub mod Years
