-- What writing one record as a front record promises (Fronts); it serves the code alone.
pub mod Fronts
